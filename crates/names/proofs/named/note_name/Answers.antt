-- `names::named::note_name` meets its contract. Assumes nothing.
use Rattle.std.proofs.Common.{if◌then◌else◌, ◌≡◌, nat_eq, eq-eqb, ne_eqb}
use Rattle.tree.specs.Place.{element_at}
use Rattle.names.proofs.Wording.{stars_small, note_word, next_other}
use Rattle.names.proofs.named.note_name.Goals.{then-first, else-first, After-stars_at-stars}
use Rattle.names.proofs.named.note_name.Goals as goal

stands : (c : After-stars_at-stars) → c.if-first.p ≡ (if nat_eq c.args.row c.args.main.row then c.args.c else c.args.q)
stands c =
    elim c.if-first.branch [
      | then-first w ↦ rw (eq-eqb c.args.row c.args.main.row w.if-first.true) w.p-is
      | else-first w ↦ rw (ne_eqb c.args.row c.args.main.row w.if-first.false) w.p-is
    ]

pub word_of-word-requires : goal.word_of-word-requires
word_of-word-requires c =
    stars_small c.args.out.now c.if-first.p (element_at c.args.tree.now c.place-at.result) c.stars_at-stars.ensures

pub returns : goal.returns
returns c =
    let a = c.args in
    record {
      word = note_word a.out.now a.c a.q a.tree.now a.t a.row a.main a.words.now c.requires c.place-at.ensures (stands (goal.at.returns c).After-stars_at-stars) c.calendar_text.ensures c.stars_at-stars.ensures c.word_of-word.ensures (rw c.name_at.ensures at c.set_word.ensures);
      next = next_other (ne_eqb a.row a.main.row c.if-first-2.false) c.skip_record.ensures.0;
    }
