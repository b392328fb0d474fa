-- A text passes the check exactly where it decodes to a model in which no row and no name leads nowhere, and ids and expenses are distinct. Assumes nothing.
use Rattle.std.specs.Prelude.{if◌then◌else◌, ◌≡◌, refl, ◌↔◌, Bool, true, false, ℕ}
use Rattle.std.proofs.Common.{arith}
use Rattle.std.specs.Prelude.{Option, Some, None}
use Rattle.definition.specs.Text.{Text}
use Rattle.definition.specs.Model.{Model}
use Rattle.definition.specs.Pack.{decode}
use Rattle.definition.specs.Check.{keeps_list}
use Rattle.definition.specs.Refusal.{check_of, check_answer}
use Rattle.theorems.specs.Leads.{LeadsSomewhere, IsDistinct, leads_somewhere, is_distinct, Passed, keeps}

-- ---- a model that passes

pub passes : (s : Text) → check_answer s ≡ 0 → Passed s
unfolding check_answer
passes s h = by_model (decode s) refl h
  where
    by_list : (m : Model) → decode s ≡ Some m → (t : Bool) → keeps_list m ≡ t → ◌≡◌ {A = ℕ} (if t then 0 else 7) 0 → Passed s
    by_list m d true k e = record { model = m; decodes = d; leads = leads_somewhere m k; distinct = is_distinct m k }
    by_list m d false k e = absurd (omega arith)

    by_model : (o : Option Model) → decode s ≡ o → check_of o ≡ 0 → Passed s
    by_model None d e = absurd (omega arith)
    by_model (Some m) d e = by_list m d (keeps_list m) refl e

-- ---- and the other way

pub checks : (s : Text) (m : Model) → decode s ≡ Some m → LeadsSomewhere m → IsDistinct m → check_answer s ≡ 0
unfolding check_answer
checks s m e t d = rw (e, keeps m t d)

-- so the check passes exactly then
pub passes_iff : (s : Text) → (check_answer s ≡ 0) ↔ Passed s
passes_iff s = (passes s, λ p. checks s p.model p.decodes p.leads p.distinct)
