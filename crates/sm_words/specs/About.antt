-- What the program says of itself. Public clauses cite it.
use Rattle.std.specs.Prelude.{ℕ, List, ◌++◌, codes}
use Rattle.sm_words.specs.declared.about.About.{About}
use Rattle.sm_words.specs.declared.about.About.TheVariants.{Help, Version}

-- the words that each command takes, a line for each; or the version
abbrev pub about_text : About → List ℕ
about_text Help =
    codes "safemerge check TASK PROOF [--steps N] [--turns N] [--workers N] [--exact] [--seconds N] [--deeper] [--why]\n"
    ++ codes "safemerge verify TASK PROOF [--workers N]\n"
    ++ codes "safemerge replay TASK INPUT [--turns N] [--workers N]\n"
    ++ codes "safemerge print TASK [--copy base|a|b|candidate]\n"
    ++ codes "safemerge suggest TASK [--steps N] [--turns N] [--workers N] [--exact] [--seconds N]\n"
    ++ codes "safemerge gen SEED SIZE [--steps N] [--turns N] [--workers N] [--exact] [--seconds N]\n"
    ++ codes "safemerge explain TASK [INPUT] [--turns N]\n"
    ++ codes "safemerge batch LIST [--cache N] [--steps N] [--turns N] [--workers N] [--exact]\n"
    ++ codes "safemerge trim TASK PROOF OUT\n"
    ++ codes "safemerge help\n"
    ++ codes "safemerge version\n"
about_text Version = codes "safemerge 0.1.0\n"
