use Rattle.std.proofs.Common.{arith, rules, sym, ap, ◌∙◌, ℕ, ◌+◌, ◌<◌, eqb, length, take, drop, take_all, length-take-le}
use Rattle.std.specs.Prelude.{Some}
use Rattle.text.specs.Parts.{all_of}
use Rattle.text.specs.Cut.{place_within, before_take, after_some, after_none}
use Rattle.text.proofs.parts.cut_at.Goals as goal

pub returns-then-k-s : goal.returns-then-k-s
returns-then-k-s c =
    let p = eqb c.args.b in
    let s = c.args.s.now in
    (before_take p s ∙ take_all _ s (omega (arith, c.place-k.ensures, c.if-k-s.true)), after_none p s (omega (arith, c.place-k.ensures, c.if-k-s.true)))

pub slice_bounds-result-end : goal.slice_bounds-result-end
slice_bounds-result-end c = sym (length-take-le c.place-k.result c.args.s.now (omega (arith, c.place-k.ensures, place_within (eqb c.args.b) c.args.s.now)))

pub overflow_add-result : goal.overflow_add-result
overflow_add-result c = omega (arith, c.well_formed, c.place-k.ensures, place_within (eqb c.args.b) c.args.s.now, c.if-k-s.false)

pub slice_bounds-result-count : goal.slice_bounds-result-count
slice_bounds-result-count c = omega (arith, c.place-k.ensures, place_within (eqb c.args.b) c.args.s.now, c.if-k-s.false)

pub slice_bounds-result-start : goal.slice_bounds-result-start
slice_bounds-result-start c =
    let h = place_within (eqb c.args.b) c.args.s.now in
    let l : c.place-k.result < length c.args.s.now = omega (arith, c.place-k.ensures, h, c.if-k-s.false) in
    search rules

pub returns : goal.returns
returns c =
    let p = eqb c.args.b in
    let s = c.args.s.now in
    let k = c.place-k.result in
    let l : k < length s = omega (arith, c.place-k.ensures, place_within p s, c.if-k-s.false) in (
      before_take p s ∙ ap (λ (n : ℕ). take n s) (sym c.place-k.ensures),
      after_some p s (omega (arith, c.place-k.ensures)) ∙ ap (λ (n : ℕ). Some (drop (n + 1) s)) (sym c.place-k.ensures) ∙ ap (λ t. Some t) (sym (all_of (k + 1) s)),
    )
