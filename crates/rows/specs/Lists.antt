-- What the library's consumers tell of the iterators here: the list that they go through. Assumes nothing.
use Rattle.std.specs.Prelude.{List, length}
use Rattle.std.proofs.Common.{ap}
use Rattle.std.proofs.lemmas.Iterator.{YieldsList}
use Rattle.std.proofs.lemmas.Iterator.Consumers.{YieldsList-from_shown}
use Rattle.definition.specs.Text.{Text}
use Rattle.definition.specs.Tree.{Element}
use Rattle.tree.specs.Place.{meaning}
use Rattle.rows.specs.Walks.{Gives}

pub gives_list : {S : Type 0} (of : S → Text → Type 0) (left : S → List Element) (s : S) → YieldsList (Gives of left) meaning s (left s)
gives_list of left s = YieldsList-from_shown (Gives of left) meaning left (λ s t h. ap length h.0) (λ s x t h. h.0) s
