use Rattle.read.specs.Sections.{Few}
use Rattle.tree.specs.Root.{root_at}
use Rattle.read.proofs.Chains.{Fit, fit_tree, six_same, six_put, six_counted}
use Rattle.read.proofs.Tables.{tasked_from, tasked_behind, links_written, activities_written}
use Rattle.read.proofs.sections.put_sections.Goals as goal

pub put_assigned-d-requires : goal.put_assigned-d-requires
put_assigned-d-requires c = tasked_behind (tasked_from c.requires c.end_of-behind.ensures c.put_calendars-a.ensures.clears) c.put_activities-b.ensures.1

pub returns : goal.returns
returns c =
    let a = c.args in
    let e = root_at a.root in
    let t1 = tasked_from c.requires c.end_of-behind.ensures c.put_calendars-a.ensures.clears in
    let t2 = tasked_behind t1 c.put_activities-b.ensures.1 in
    let w1 = c.put_calendars-a.ensures.written in
    let w2 = activities_written t1 _ c.put_activities-b.ensures.0 in
    let w3 = links_written t2 c.put_links-c.ensures in
    let w4 = c.put_assigned-d.ensures in
    let fit : Few e → Fit e = fit_tree a.root c.are_bytes.ensures.bytes in
    record {
      same = six_same e w1 w2 w3 w4.resources_put w4.assignments_put w4.expenses_put;
      puts = λ few. six_put e w1 w2 w3 w4.resources_put w4.assignments_put w4.expenses_put (fit few) few;
      counts = λ few. six_counted e w1 w2 w3 w4.resources_put w4.assignments_put w4.expenses_put (fit few) few;
    }
