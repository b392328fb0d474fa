-- Document 01's whole case in the form of document 02, E2, and the examples of its table of refusals. Assumes nothing.
use Rattle.std.specs.Prelude.{◌≡◌, refl, [], ◌∷◌, ◌++◌, replicate}
use Rattle.definition.specs.Ascii.{bytes}
use Rattle.definition.specs.Text.{Text}
use Rattle.definition.specs.Tree.{packed}
use Rattle.definition.specs.Refusal.{refused, gives, read_answer, check_answer, time_answer}
use Rattle.examples.specs.Open.{opened}
use Rattle.examples.specs.Hand.{element_at_lem}

-- the tree hex 02 07 00 00 and `Project`
abbrev pub whole_tree : Text
whole_tree = 0x02 ∷ 0x07 ∷ 0x00 ∷ 0x00 ∷ bytes "Project"

-- hex 00000001, 49 zero bytes, 00000008, `Standard`, F8, 40 zero bytes
abbrev pub whole_model : Text
whole_model =
    0x00 ∷ 0x00 ∷ 0x00 ∷ 0x01 ∷
    (replicate 49 0 ++ (0x00 ∷ 0x00 ∷ 0x00 ∷ 0x08 ∷ (bytes "Standard" ++ (0xF8 ∷ replicate 40 0))))

pub whole_case : read_answer whole_tree 106 ≡ gives whole_model
unfolding opened
whole_case = refl

pub whole_checks : check_answer whole_model ≡ 0
unfolding opened
whole_checks = refl

-- number by number
pub layout_broken : read_answer (0x00 ∷ []) 106 ≡ refused 1
unfolding opened
layout_broken = refl

pub not_utf8 : read_answer (0x02 ∷ 0x01 ∷ 0x00 ∷ 0x00 ∷ 0xFF ∷ []) 106 ≡ refused 2
unfolding opened
not_utf8 = refl

pub no_root : read_answer [] 106 ≡ refused 4
unfolding opened
no_root = refl

pub too_long : read_answer (packed (element_at_lem 1 "Project" "" ∷ element_at_lem 2 "Duration" "PT1234567890123456H" ∷ [])) 106 ≡ refused 5
unfolding opened
too_long = refl

pub no_model : check_answer [] ≡ 6
unfolding opened
no_model = refl

pub time_past_day : time_answer 1441 106 ≡ refused 8
unfolding opened
time_past_day = refl

pub room_short : read_answer whole_tree 105 ≡ refused 9
unfolding opened
room_short = refl
