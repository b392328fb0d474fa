-- Document 02, E2: durations that were not whole minutes. Which texts are such, and which tasks are counted. Assumes nothing.
use Rattle.std.specs.Prelude.{ℕ, ◌+◌, ◌^◌, ◌≡◌, refl, List, [], ◌∷◌, ◌++◌, take, drop, replicate}
use Rattle.definition.specs.declared.Unread.TheVariants.{Absent}
use Rattle.std.specs.Prelude.{Err}
use Prim.Native.String.{String}
use Rattle.std.specs.Prelude.{Option, Some, None}
use Rattle.definition.specs.Base.{◌>>=◌}
use Rattle.definition.specs.Ascii.{bytes}
use Rattle.definition.specs.Text.{Text}
use Rattle.definition.specs.Date.{Date, date_of}
use Rattle.definition.specs.Tree.{Rec, element, packed}
use Rattle.definition.specs.Model.{Project}
use Rattle.definition.specs.Task.{context_of}
use Rattle.definition.specs.Read.{project_of}
use Rattle.definition.specs.Pack.{decode}
use Rattle.definition.specs.Refusal.{output, read_answer, check_answer}
use Rattle.examples.specs.Open.{opened}
use Rattle.examples.specs.Hand.{Row, duration, whole, part, AllHold, element_at_lem}

-- ---- texts

-- what is asked is the sum in f64: 4.1 hours fall short of 246 minutes there, and 0.1 hours are 6
abbrev pub texts : List Row
texts =
    duration "PT60S" (whole 1) ∷ duration "PT90S" (part 2) ∷ duration "PT0.5M" (part 1) ∷ duration "PT1.5S" (part 0) ∷ duration "P0.0001D" (part 0) ∷
    duration "P" (whole 0) ∷ duration "P-0DT-0H-0M-0S" (whole 0) ∷ duration "PT0.1H" (whole 6) ∷ duration "PT4.1H" (part 246) ∷ duration "PT16666666H40M1S" (Err Absent) ∷ []

pub texts_are : AllHold texts
unfolding opened
texts_are = (refl, (refl, (refl, (refl, (refl, (refl, (refl, (refl, (refl, (refl, tt))))))))))

-- ---- tasks

abbrev task : String → String → List Rec
task uid text = element_at_lem 3 "Task" "" ∷ element_at_lem 4 "UID" uid ∷ element_at_lem 4 "Duration" text ∷ []

abbrev counted : List Rec → ℕ
counted tasks = let root = element (element_at_lem 1 "Project" "" ∷ element_at_lem 2 "Tasks" "" ∷ tasks) in (project_of (context_of root) root).fractional

-- 0 minutes count, a milestone's half a minute does, an elapsed task's too, and so do two tasks of one UID
pub these_count :
    counted
    (task "1" "PT30S" ++ (task "1" " PT29S " ++ (task "2" "PT0.5M" ++ (element_at_lem 4 "Milestone" "1" ∷ (task "3" "P0.0001D" ++ (element_at_lem 4 "DurationFormat" "8" ∷ [])))))) ≡ 4
unfolding opened
these_count = refl

-- whole, missing, ill-formed, above 1e9 minutes; the first of two Durations whole, or blank; and tasks that are not kept
pub these_do_not :
    counted
    (task "1" "PT60S" ++ (element_at_lem 4 "Duration" "PT30S" ∷ (task "2" "" ++ (element_at_lem 4 "Duration" "PT30S" ∷ (task "3" "PT30" ++
    (task "4" "PT16666666H40M1S" ++ (element_at_lem 3 "Task" "" ∷ element_at_lem 4 "UID" "6" ∷ (task "0" "PT30S" ++ (task "" "PT30S" ++ (task "5" "PT30S" ++ (element_at_lem 4 "OutlineLevel" "0" ∷ []))))))))))) ≡ 0
unfolding opened
these_do_not = refl

-- ---- the fourth count of four

-- a plan with one link across and two durations that were not whole, and its data date
abbrev plan : List Rec
plan =
    element_at_lem 1 "Project" "" ∷ element_at_lem 2 "StatusDate" "2026-03-02" ∷ element_at_lem 2 "Tasks" "" ∷
    (task "1" "PT30S" ++ (task "2" "PT1.5S" ++ (element_at_lem 4 "PredecessorLink" "" ∷ element_at_lem 5 "CrossProject" "1" ∷ [])))

abbrev model : Text
model = output (read_answer (packed plan) 1000)

-- behind the name, the start and the currency: skipped, dangling, across, fractional
pub bytes_are : take 16 (drop 36 model) ≡ 0 ∷ 0 ∷ 0 ∷ 0 ∷ 0 ∷ 0 ∷ 0 ∷ 0 ∷ 0 ∷ 0 ∷ 0 ∷ 1 ∷ 0 ∷ 0 ∷ 0 ∷ 2 ∷ []
unfolding opened
bytes_are = refl

abbrev counts : Project → List ℕ × Option Date
counts p = (p.skipped ∷ p.dangling ∷ p.across ∷ p.fractional ∷ [], p.data_date)

pub counts_are : (decode model >>= λ m. Some (counts m.project)) ≡ Some (0 ∷ 0 ∷ 1 ∷ 2 ∷ [], date_of (bytes "2026-03-02"))
unfolding opened
counts_are = refl

-- ---- a model of the form before

-- with no data date it is refused, as a pad bit is set; with one of an even day number it decodes, to another fourth count and no data date
abbrev before : Text → Text
before data_date =
    0x00 ∷ 0x00 ∷ 0x00 ∷ 0x01 ∷ (replicate 44 0 ++ (data_date ++ (0x00 ∷ 0x00 ∷ 0x00 ∷ 0x08 ∷ (bytes "Standard" ++ (0xF8 ∷ replicate 40 0)))))

pub refused_now : check_answer (before (0x00 ∷ [])) ≡ 6
unfolding opened
refused_now = refl

-- flag 1 and 20514, which is 2026-03-02, and seven zero bits
pub other_now : (decode (before (0x80 ∷ 0x00 ∷ 0x28 ∷ 0x11 ∷ 0x00 ∷ [])) >>= λ m. Some (counts m.project)) ≡ Some (0 ∷ 0 ∷ 0 ∷ (2 ^ 31 + 10257) ∷ [], None)
unfolding opened
other_now = refl
