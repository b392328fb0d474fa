-- What document 01 asks of every model that was read holds of each. Assumes nothing.
use Rattle.std.specs.Prelude.{◌≡◌, refl, List, ℕ}
use Rattle.std.specs.Prelude.{Some}
use Rattle.definition.specs.Text.{Text}
use Rattle.definition.specs.Read.{model_of}
use Rattle.definition.specs.Pack.{decode}
use Rattle.definition.specs.Refusal.{gives, read_answer}
use Rattle.laws.specs.Bits.{Bytes}
use Rattle.theorems.specs.Fractions.{fractional_many}
use Rattle.theorems.specs.Calendars.{skipped_many, main_first_lem, resource_other_lem}
use Rattle.theorems.proofs.Calendars.{activity_other_lem}
use Rattle.theorems.specs.KeptTasks.{are_kept}
use Rattle.theorems.proofs.Keeping.{keeps_list_lem, read_passes}
use Rattle.theorems.specs.Leads.{leads_somewhere, is_distinct}
use Rattle.theorems.proofs.LinkSums.{links_many_lem, link, dangling_many, across_many, links_sum}
use Rattle.theorems.specs.Made.{as_many_lem, made}
use Rattle.theorems.specs.Order.{in_order_lem, level_top, level_under}
use Rattle.theorems.specs.Parents.{nearest_parent}
use Rattle.theorems.proofs.Parents.{no_parent}
use Rattle.theorems.specs.Accepted.{what_given}
use Rattle.theorems.proofs.Reading.{read_fits, answer_decodes}
use Rattle.theorems.specs.Told.{root_of, OfEveryRead}
use Rattle.theorems.specs.EveryRead.{outline_given}

-- `Bytes tree` says that each number of the tree is below 256, as in a lent slice it always is
pub of_every_read : (tree : Text) (room : ℕ) (l : List ℕ) → Bytes tree → read_answer tree room ≡ gives l → OfEveryRead tree l
of_every_read tree room l b h =
    let root = root_of tree in
    let m = model_of root in
    let d : decode l ≡ Some m = answer_decodes tree room l b h in
    record {
      model = m;
      of_tree = refl;
      decodes = d;
      fits = read_fits tree b (what_given tree room l h).0;
      passes = read_passes tree room l b h;
      leads = leads_somewhere m (keeps_list_lem root);
      differs = is_distinct m (keeps_list_lem root);
      tasks = are_kept root;
      as_many = as_many_lem root;
      made = made root;
      parent = nearest_parent root;
      orphan = no_parent root;
      order = in_order_lem root;
      top = level_top root;
      under = level_under root;
      outlined = outline_given l m d;
      links_many = links_many_lem root;
      link = link root;
      dangling = dangling_many root;
      across = across_many root;
      sum = links_sum root;
      fractional = fractional_many root;
      skipped = skipped_many root;
      main = main_first_lem root;
      activity_other = activity_other_lem root;
      resource_other = resource_other_lem root;
    }
