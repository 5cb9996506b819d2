-- What a sink in memory took, and which of its calls are to fail. It tells all that it took.
use Rattle.std.specs.Prelude.{ℕ, List, Option, Some, Contains}
use Rattle.sm_io.specs.declared.mem_sink.MemSink.{MemSink}

-- the bytes that the sink took
abbrev pub taken_by : MemSink → Option (List ℕ)
taken_by sink = Some sink.bytes.items

-- the numbers of the calls of `put` that are to fail
abbrev pub failing_puts : MemSink → List ℕ
failing_puts sink = sink.calls.failing.items

-- how many calls of `put` were made, which is the number of the next one
abbrev pub puts_of : MemSink → ℕ
puts_of sink = sink.calls.made

-- how many calls of `put` failed by their number
abbrev pub faults_of : MemSink → ℕ
faults_of sink = sink.faults

-- the next call is one that is to fail
abbrev pub IsFailingPut : MemSink → Type 0
IsFailingPut sink = Contains (failing_puts sink) (puts_of sink)
