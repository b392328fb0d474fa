-- An element has at most as many children, and as many siblings behind it, as its tree has bytes. Assumes nothing.
use Rattle.std.specs.Prelude.{if◌then◌else◌, ℕ, zero, suc, ◌+◌, ◌≤◌, Bool, true, false, List, [], ◌∷◌, length, drop, Option, Some, None}
use Rattle.std.proofs.Common.{arith, length-drop}
use Rattle.std.proofs.Math.Dec.{eqb, ltb}
use Rattle.definition.specs.Base.{keep, same}
use Rattle.definition.specs.Text.{Text}
use Rattle.definition.specs.Tree.{Rec, record_of, and_then, records_up_to, records, one, nothing, elements, level, element, all}
use Rattle.tree.specs.Place.{element_at, named, siblings, later_at}

named_few : (n : Text) (w : ℕ) (rs : List Rec) → length (named n (level w rs)) ≤ length rs
unfolding level elements keep
named_few n w [] = omega arith
named_few n w (r ∷ rs) = by (ltb r.depth w) (eqb r.depth w) (same r.name n) (named_few n w rs)
  where
    by : (t u v : Bool) → length (named n (level w rs)) ≤ length rs → length (named n (if t then nothing else if u then one r.name r.text (level (w + 1) rs) (level w rs) else level w rs)) ≤ suc (length rs)
    by true u v h = omega arith
    by false true v h = omega (arith, kept (same r.name n))
      where
        kept : (v : Bool) → length (if v then record { name = r.name; text = r.text; below = level (w + 1) rs } ∷ named n (level w rs) else named n (level w rs)) ≤ suc (length rs)
        kept true = omega arith
        kept false = omega arith
    by false false v h = omega arith

all_few : (n : Text) (rs : List Rec) → length (all (element rs) n) ≤ length rs
unfolding all element elements keep
all_few n [] = omega arith
all_few n (r ∷ rs) = omega (arith, named_few n (r.depth + 1) rs)

siblings_few : (n : Text) (rs : List Rec) → length (named n (siblings rs)) ≤ length rs
unfolding siblings elements keep
siblings_few n [] = omega arith
siblings_few n (r ∷ rs) = omega (arith, named_few n r.depth rs)

up_to_few : (k : ℕ) (s : Text) → length (records_up_to k s) ≤ k
unfolding records_up_to
up_to_few zero s = omega arith
up_to_few (suc k) s = by (record_of s) (λ rest. up_to_few k rest)
  where
    by : (o : Option (Rec × Text)) → ((rest : Text) → length (records_up_to k rest) ≤ k) → length (and_then o (records_up_to k)) ≤ suc k
    by None h = omega arith
    by (Some (r, rest)) h = omega (arith, h rest)

module _ (s : Text) (at : ℕ) (n : Text) where
  records_few : length (records (drop at s)) ≤ length s
  unfolding records
  records_few = omega (arith, up_to_few (length (drop at s)) (drop at s), length-drop at s)

  pub children_few : length (all (element_at s at) n) ≤ length s
  children_few = omega (arith, all_few n (records (drop at s)), records_few)

  pub later_few : length (later_at s n at) ≤ length s
  later_few = omega (arith, siblings_few n (records (drop at s)), records_few)
