-- Working times by their place, and by the tests that the code makes. Assumes nothing.
use Rattle.std.specs.Prelude.{if◌then◌else◌}
use Rattle.std.proofs.Common.{◌≡◌, ℕ, ◌<◌, ◌≤◌, Bool, eqb, ltb, sym, ap, ◌∙◌, le-ltb, lt-ltb}
use Rattle.std.specs.Prelude.{Some, None}
use Rattle.definition.specs.Base.{when}
use Rattle.calendar.specs.Hours.{time_by}

module _ (from until to : ℕ) (e : to ≡ (if eqb until 0 then 1440 else until)) where
  whole : when (ltb from to) (from, to) ≡ time_by (Some from) (Some until)
  whole = ap (λ (n : ℕ). when (ltb from n) (from, n)) e

  pub rises : from < to → Some (from, to) ≡ time_by (Some from) (Some until)
  rises h = sym (ap (λ (b : Bool). when b (from, to)) (lt-ltb from to h)) ∙ whole

  pub falls : to ≤ from → None ≡ time_by (Some from) (Some until)
  falls h = sym (ap (λ (b : Bool). when b (from, to)) (le-ltb from to h)) ∙ whole
