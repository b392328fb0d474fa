use Rattle.std.proofs.Common.{rules, tests, ◌∙◌, ap}
use Rattle.std.proofs.lemmas.Iterator.Search.{any_from_yields_List}
use Rattle.definition.specs.Base.{some?}
use Rattle.calendar_days.specs.Exceptions.{is_time}
use Rattle.calendar_days.proofs.Elements.{any_is, children_given}
use Rattle.calendar_days.proofs.exceptions.any_time.Goals as goal

pub returns : goal.returns
returns c = any_from_yields_List is_time c.any.new.self _ _ c.any.ensures.ran (children_given c.children.result) (λ x b q k. search (rules, tests)) ∙ any_is is_time _ ∙ ap (some? is_time) c.children.ensures
