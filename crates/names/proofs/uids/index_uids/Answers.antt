use native.Mathlib.Omega.{arith}
use mathlib.Core.Path.{sym, ◌∙◌}
use lib.ListN.{length}
use Rattle.tree.specs.Root.{root_at}
use Rattle.names.specs.Sought.{made_ripe}
use Rattle.names.proofs.Wording.{chain_fits, uids_made, uids_ready}
use Rattle.names.proofs.uids.index_uids.Goals as goal

pub note_places-count-requires : goal.note_places-count-requires
note_places-count-requires c = let a = c.args in made_ripe a.root.tree.now (root_at a.root) (length a.words.now) a.at (sym c.in-Some.is ∙ c.room_for.ensures)

pub chain_rows-requires : goal.chain_rows-requires
chain_rows-requires c = chain_fits (let a = c.args in made_ripe a.root.tree.now (root_at a.root) (length a.words.now) a.at (sym c.in-Some.is ∙ c.room_for.ensures)) c.note_places-count.ensures

pub returns : goal.returns
returns c = uids_ready c.room_for.ensures c.in-Some.is (uids_made (let a = c.args in made_ripe a.root.tree.now (root_at a.root) (length a.words.now) a.at (sym c.in-Some.is ∙ c.room_for.ensures)) c.note_places-count.ensures c.chain_rows.ensures) (omega (arith, c.name_at.ensures))
