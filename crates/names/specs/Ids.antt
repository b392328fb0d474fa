-- Ids by tables in lent words: what the calls make of the words and read in them, and the law that it is what a look at all records gives. Assumes
-- nothing.
use Rattle.std.specs.Prelude.{if◌then◌else◌, Bool, ◌&&◌, List, [], ℕ, suc, ◌+◌, ◌-◌, ◌*◌, min, ltb, leb, eqb, length}
use Rattle.std.specs.Prelude.{None, Option}
use Rattle.std.specs.Prelude.{Some}
use Rattle.definition.specs.Base.{◌>>=◌, ◌or◌, given, find, same}
use Rattle.definition.specs.Calendar.{free}
use Rattle.definition.specs.Text.{Text}
use Rattle.bits.specs.Places.{inside}
use Rattle.bits.specs.declared.Place.{Place}
use Rattle.index.specs.Hash.{hash_of}
use Rattle.index.specs.Chains.{zeros, added, place_of, chain_of, end_of}
use Rattle.model.specs.Answers.{read_at}
use Rattle.model.specs.Parts.{raw}
use Rattle.model.specs.declared.records.Kind.{Kind}
use Rattle.pack.specs.Value.{starred_by}
use Rattle.names.specs.Stars.{tries}
use Rattle.names.specs.Texts.{place_of_row, texts_at}
use Rattle.names.specs.declared.ids.Ids.{Ids}

-- tables from a place on, where the words are long enough for both
unfoldable pub ids_of : ℕ → ℕ → ℕ → Option Ids
ids_of len at rows =
    if ltb 0 rows && leb (at + 6 * rows) len
    then Some (record { ids = record { at = at; rows = rows }; wanted = record { at = at + 3 * rows; rows = rows } })
    else None

abbrev pub no_ids : List ℕ → Ids → List ℕ
no_ids w i = zeros (zeros w i.ids.at i.ids.rows) i.wanted.at i.wanted.rows

-- a row more: its id is the wanted text with so many `*`, and stands at a byte
abbrev pub noted : List ℕ → Ids → ℕ → Text → ℕ → ℕ → List ℕ
noted w i row wanted stars byte = added (added w i.ids row (hash_of (starred_by wanted stars)) byte) i.wanted row (hash_of wanted) stars

-- the text at a byte of a buffer
abbrev pub text_from : List ℕ → ℕ → Text
text_from d byte = (read_at raw d (record { byte = byte; bit = 0 })).0 or []

-- the id of a row, in the buffer
abbrev pub id_at : List ℕ → List ℕ → Ids → ℕ → Text
id_at d w i row = text_from d (place_of w i.ids row)

-- whether the id of a row is the wanted text with so many `*`
abbrev pub is_id : List ℕ → List ℕ → Ids → Text → ℕ → ℕ → Bool
is_id d w i wanted stars row = same (starred_by wanted stars) (id_at d w i row)

unfoldable pub taken_in : List ℕ → List ℕ → Ids → Text → ℕ → Bool
taken_in d w i wanted stars = given (find (is_id d w i wanted stars) (chain_of w i.ids (hash_of (starred_by wanted stars))))

abbrev pub behind : ℕ → ℕ → ℕ
behind stars count = if ltb stars count then suc stars else stars

-- whether a row wanted a text: its id is that text with its own `*`
abbrev pub wants : List ℕ → List ℕ → Ids → Text → ℕ → Bool
wants d w i wanted row = is_id d w i wanted (place_of w i.wanted row) row

unfoldable pub stars_from : List ℕ → List ℕ → Ids → ℕ → Text → ℕ
stars_from d w i count wanted =
    (find (wants d w i wanted) (chain_of w i.wanted (hash_of wanted)) >>= λ r. Some (behind (place_of w i.wanted r) count)) or 0

-- how many `*` a text needs, as the words say
unfoldable pub free_in : List ℕ → List ℕ → Ids → ℕ → Text → ℕ
free_in d w i count wanted = let k = stars_from d w i count wanted in tries (count - k) (taken_in d w i wanted) k

-- ---- the ids of a section that is written, with tables or with none

-- tables for a section that begins at a place of a buffer of so many bytes: each record begins at a whole byte, and 32 bits hold where
unfoldable pub ids_for : ℕ → Place → ℕ → ℕ → ℕ → Option Ids
ids_for bytes start len at rows = if eqb start.bit 0 && leb bytes 4294967295 then ids_of len at rows else None

-- none noted yet
abbrev pub begun : List ℕ → Option Ids → List ℕ
begun w None = w
begun w (Some i) = no_ids w i

-- where the words behind them begin
abbrev pub end_ids : Option Ids → ℕ → ℕ → ℕ
end_ids None at len = at
end_ids (Some i) at len = min (end_of i.wanted) len

-- with the id of a row more
abbrev pub noted_by : List ℕ → Option Ids → ℕ → Text → ℕ → ℕ → List ℕ
noted_by w None row u stars byte = w
noted_by w (Some i) row u stars byte = noted w i row u stars byte

-- the text with the `*` that it needs among the first records, by tables that have words for so many, else by all records
abbrev pub free_by : Kind → List ℕ → Place → List ℕ → Option Ids → ℕ → Text → Text
free_by kind d start w None count u = free (texts_at kind d start count) u
free_by kind d start w (Some i) count u = if ltb i.ids.rows count then free (texts_at kind d start count) u else starred_by u (free_in d w i count u)

-- with none once the place is past the end
unfoldable pub starred_in : Kind → List ℕ → Place → Place → List ℕ → Option Ids → ℕ → Text → Text
starred_in kind d start p w m count u = if inside (length d) p then free_by kind d start w m count u else starred_by u 0

-- where the record of a row stands among so many
unfoldable pub place_in : Kind → List ℕ → Place → List ℕ → Option Ids → ℕ → ℕ → Place
place_in kind d start w None count row = place_of_row kind d start row
place_in kind d start w (Some i) count row = if ltb i.ids.rows count then place_of_row kind d start row else record { byte = place_of w i.ids row; bit = 0 }
