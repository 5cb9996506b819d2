-- Private: what the product of a task reads.
use Rattle.sm_syntax.specs.text.Sorts.{Sorts}
use Rattle.sm_text.specs.Tasks.{parts_of}
use Rattle.sm_template.specs.Sites.{IsSiteOf, IsSiteReady}
use Rattle.sm_product.specs.declared.product.ProductContext.{ProductContext}
use Rattle.sm_product.specs.Laws.{HaveNoHole}

-- templates are made for the task, whose fillings have no hole
pub record IsContextReady (sorts : Sorts) (cx : ProductContext) : Type 0 where
  pub site : IsSiteOf (parts_of cx.task.now) cx.site
  pub ready : IsSiteReady sorts cx.site
  pub no_hole : HaveNoHole (parts_of cx.task.now)
