-- From the rows that are written to what the definition says. Assumes nothing.
use mathlib.Core.Path.{◌≡◌, refl, sym, ap, ◌∙◌}
use mathlib.Core.List.{List, ◌++◌}
use Prim.Native.Nat.{ℕ, ◌-◌, ◌*◌, ◌/◌, ◌≤◌}
use native.Mathlib.Omega.{arith}
use borrow.Author.Tests.{le-ltb}
use lib.ListN.{length, take, replicate}
use lib.Seq.{length-take-le}
use Rattle.definition.specs.Outline.{outline_of}
use Rattle.definition.specs.Refusal.{Answer, refused, gives, left, written, row_words}
use Rattle.outline.specs.Words.{no_row, parents_in, outline_words, Outlined}
use Rattle.outline.specs.Steps.{Empty, Linked, Walked, Wrote, words_of}
use Rattle.outline.proofs.ParentLaws.{length_parents}
use Rattle.outline.proofs.Lists.{links_none}

module _ (n room : ℕ) (work : List ℕ) where
  enough : 2 * n ≤ room → 4 * n ≤ length work → outline_words n room work ≡ gives (row_words (outline_of (parents_in n work)))
  unfolding outline_words
  enough h k = rw (le-ltb room (2 * n) h, le-ltb (length work) (4 * n) k)

pub wrote_all : (n : ℕ) (rows work : List ℕ) {rows' work₁ work₂ : List ℕ} {r : ℕ} → 2 * n ≤ length rows → 4 * n ≤ length work → Empty n work work₁
    → Linked n work₁ work₂ → Walked n rows work₂ rows' r → Wrote n rows work rows' work₂ r
wrote_all n rows work {work₁ = work₁} h k empty linked walked =
    let e : n ≡ length (parents_in n work) = sym (length_parents n work) in
    record {
      long_rows = walked.long;
      long_work = linked.long ∙ empty.long;
      room = omega (arith, walked.few);
      words =
          ap words_of (enough n (length rows) work h k)
          ∙ walked.words (parents_in n work) e (linked.links (parents_in n work) e (links_none n work work₁ empty));
    }

left_words : (room : ℕ) (a : Answer) → left room a ≡ words_of a ++ replicate (room - length (words_of a)) 0
left_words room (refused k) = let e : room ≡ room - 0 = omega arith in ap (λ (m : ℕ). replicate m 0) e
left_words room (gives l) = refl

written_words : (a : Answer) → written a ≡ length (words_of a)
written_words (refused k) = refl
written_words (gives l) = refl

pub outlined : (n : ℕ) (rows work : List ℕ) → n ≤ no_row → {rows₁ work₁ rows₂ work₂ : List ℕ} {r : ℕ} → Wrote n rows work rows₁ work₁ r
    → rows₂ ≡ take (2 * r) rows₁ ++ replicate (length rows₁ - 2 * r) 0 → work₂ ≡ replicate (length work₁) 0
    → Outlined n rows work rows₂ work₂ r
outlined n rows work few {rows₁ = rows₁} {work₁ = work₁} {r = r} w e f =
    let a : Answer = outline_words n (length rows) work in
    let t : length (words_of a) ≡ 2 * r = ap length w.words ∙ length-take-le (2 * r) rows₁ (omega (arith, w.room, w.long_rows)) in
    let u : length rows₁ - 2 * r ≡ length rows - length (words_of a) = omega (arith, w.long_rows) in
    let v : length work₁ ≡ length work = omega (arith, w.long_work) in
    let s : written a ≡ 2 * r = written_words a ∙ t in
    let d : r ≡ (2 * r) / 2 = omega arith in
    record {
      few = few;
      given =
          e
          ∙ ap (λ (l : List ℕ). l ++ replicate (length rows₁ - 2 * r) 0) (sym w.words)
          ∙ ap (λ (m : ℕ). words_of a ++ replicate m 0) u
          ∙ sym (left_words (length rows) a);
      cleared = f ∙ ap (λ (m : ℕ). replicate m 0) v;
      counted = d ∙ ap (λ (m : ℕ). m / 2) (sym s);
    }
