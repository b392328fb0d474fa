use Rattle.std.proofs.Common.{rules, tests, refl, ◌≡◌, ◌≤◌, ◌<◌, ◌+◌, ◌^◌, Bool, List, [], ◌∷◌, length, ap, ◌∙◌, arith}
use mathlib.Core.Logic.{inl}
use Rattle.std.specs.List.{filter}
use Rattle.std.proofs.lemmas.Iterator.Consumers.{count_from_yields_List, YieldsList-from_filter}
use Rattle.definition.specs.Base.{keep}
use Rattle.definition.specs.Tree.{Element}
use Rattle.definition.specs.Task.{is_fractional, kept_tasks}
use Rattle.laws.specs.FitTrees.{keep_most, tasks_most}
use Rattle.tree.specs.Root.{root_at}
use Rattle.rows.specs.Lists.{gives_list}
use Rattle.rows.specs.Walks.{kept_left, KeptOf}
use Rattle.rows.proofs.kept.count_fractional.Goals.{After-count}
use Rattle.rows.proofs.kept.count_fractional.Goals as goal

kept : {A : Type 0} (p : A → Bool) (l : List A) → filter p l ≡ keep p l
unfolding keep
kept p [] = refl
kept p (x ∷ l) = rw (kept p l)

counted : (c : After-count) → c.count.result ≡ length (keep is_fractional (kept_tasks (root_at c.args.root)))
counted c =
    count_from_yields_List _ _ c.count.ensures.ran (YieldsList-from_filter _ is_fractional (gives_list KeptOf kept_left c.filter.result.iter) refl (λ x b q k. search (rules, tests)))
    ∙ ap length (kept is_fractional _)
    ∙ ap (λ (l : List Element). length (keep is_fractional l)) (ap kept_left c.filter.ensures.source ∙ c.kept_tasks.ensures.is)

kept_fits : (root : Element) → length (kept_tasks root) ≤ 100000
kept_fits root = tasks_most root

few : (root : Element) → length (keep is_fractional (kept_tasks root)) ≤ 100000
few root = omega (arith, keep_most is_fractional (kept_tasks root), tasks_most root)

pub count-requires-clause-fits : goal.count-requires-clause-fits
count-requires-clause-fits c =
    let room : 0 + length (kept_left c.filter.result.iter) < 2 ^ 64 = omega (arith, ap length (ap kept_left c.filter.ensures.source ∙ c.kept_tasks.ensures.is), kept_fits (root_at c.args.root)) in
    inl room

pub overflow_cast-result : goal.overflow_cast-result
overflow_cast-result c = omega (arith, counted (goal.at.overflow_cast-result c).After-count, few (root_at c.args.root))

pub returns : goal.returns
returns c = counted (goal.at.returns c).After-count
