-- The model's codes of a resource's kind and its accrual. Assumes nothing.
use Rattle.std.specs.Prelude.{ℕ}
use Rattle.resources.specs.declared.resource.ResourceKind.{ResourceKind}
use Rattle.resources.specs.declared.resource.ResourceKind.TheVariants as kind
use Rattle.resources.specs.declared.resource.Accrual.{Accrual}
use Rattle.resources.specs.declared.resource.Accrual.TheVariants as accrual

abbrev pub resource_kind_code : ResourceKind → ℕ
resource_kind_code kind.Labor = 0
resource_kind_code kind.Material = 2

abbrev pub accrual_code : Accrual → ℕ
accrual_code accrual.AtStart = 0
accrual_code accrual.AtEnd = 1
accrual_code accrual.Evenly = 2
