-- The records' formats by their parts, as the functions go over them: with texts that are tested for UTF-8, or with any bytes for texts, since a
-- model that was decoded needs no test again. Assumes nothing.
use Rattle.std.specs.Prelude.{if◌then◌else◌, ◌≡◌, Bool, true, false, List, ◌++◌, ℕ, ◌*◌, ltb, ℤ, length, drop}
use Rattle.std.specs.Prelude.{Option, Some, None}
use Rattle.definition.specs.Base.{◌>>=◌, when}
use Rattle.definition.specs.Bits.{Bits, bits_of, bytes_up_to}
use Rattle.definition.specs.Text.{Text, is_utf8}
use Rattle.definition.specs.Date.{Date}
use Rattle.definition.specs.Calendar.{by_date}
use Rattle.definition.specs.Format.{Format, ◌⊗◌, Period, whole, times, count, row, flag, code, number, text, date, optional, list_of, periods, dates}
use Rattle.definition.specs.Pack.{lag_kind, constraint, calendar, activity, link, resource, assignment, expense}
use Rattle.model.specs.Lax.{behind, Like, Lax, Regroups, passed, lax_same, lax-⊗, lax_optional, lax_whole, lax_like, lax_of, regroup_none, regroup_more, regroup_like, like_then, like_named, like_whole, like_passed}
use Rattle.model.specs.declared.records.Kind.{Kind}
use Rattle.model.specs.declared.records.Kind.TheVariants.{Calendars, Activities, Links, Resources, Assignments, Expenses}

-- a text of any bytes
unfoldable pub raw : Format Text
raw = record {
  put = λ n s. (whole count).put n (length s) ++ bits_of s;
  get = λ l. (whole count).get l >>= λ x. if ltb (length x.1) (8 * x.0) then None else Some (bytes_up_to x.0 x.1, drop (8 * x.0) x.1);
}

unfoldable pub text_by : Bool → Format Text
text_by true = text
text_by false = raw

module _ (t : Format Text) where
  unfoldable pub calendar_parts : Format (Text × (List Bool × (List (List Period) × (List Date × (List Date × List (Date × List Period))))))
  calendar_parts = t ⊗ times 7 flag ⊗ times 7 periods ⊗ dates ⊗ dates ⊗ list_of by_date (date ⊗ periods)

  -- an activity before its parent: id, name, kind, duration, minutes
  abbrev pub activity_head : Format (Text × (Text × (ℕ × (ℤ × Option ℤ))))
  activity_head = t ⊗ t ⊗ code 0 2 ⊗ number ⊗ optional number

  -- from its calendar's name on
  abbrev pub ActivityRest : Type 0
  ActivityRest = Option Text × (Option (ℕ × Option Date) × (Option Date × (Option Date × (Option Date × (Option ℤ × (ℕ × (Option ℤ × Text)))))))

  unfoldable pub activity_rest : Format ActivityRest
  activity_rest = optional t ⊗ optional constraint ⊗ optional date ⊗ optional date ⊗ optional date ⊗ optional number ⊗ code 0 3 ⊗ optional number ⊗ t

  -- and from its notes on, behind its parent
  abbrev pub activity_notes : Format (Text × ActivityRest)
  activity_notes = t ⊗ activity_rest

  unfoldable pub activity_parts : Format ((Text × (Text × (ℕ × (ℤ × Option ℤ)))) × (Option ℕ × (Text × ActivityRest)))
  activity_parts = activity_head ⊗ optional row ⊗ activity_notes

  -- a resource before its calendar's name: id, name, kind, unit, max units
  abbrev pub resource_head : Format (Text × (Text × (ℕ × (Text × ℤ))))
  resource_head = t ⊗ t ⊗ code 0 2 ⊗ t ⊗ number

  unfoldable pub resource_parts : Format ((Text × (Text × (ℕ × (Text × ℤ)))) × (Option Text × Option ℤ))
  resource_parts = resource_head ⊗ optional t ⊗ optional number

  unfoldable pub expense_parts : Format (ℕ × (Text × (ℤ × (ℤ × (Option ℤ × ℕ)))))
  expense_parts = row ⊗ t ⊗ number ⊗ number ⊗ optional number ⊗ code 0 2

unfoldable pub link_parts : Format (ℕ × (ℕ × (ℕ × (ℤ × (Option ℤ × (ℕ × Option ℤ))))))
link_parts = row ⊗ row ⊗ code 0 3 ⊗ number ⊗ optional number ⊗ lag_kind

unfoldable pub assignment_parts : Format (ℕ × (ℕ × (ℤ × (ℤ × (Option ℤ × Option ℤ)))))
assignment_parts = row ⊗ row ⊗ number ⊗ number ⊗ optional number ⊗ optional number

-- a section's record, whatever its value is
unfoldable pub record_of : Bool → Kind → Format (Unit {0})
record_of check Calendars = passed (whole (calendar_parts (text_by check)))
record_of check Activities = passed (whole (activity_parts (text_by check)))
record_of check Links = passed (whole link_parts)
record_of check Resources = passed (whole (resource_parts (text_by check)))
record_of check Assignments = passed (whole assignment_parts)
record_of check Expenses = passed (whole (expense_parts (text_by check)))

-- ---- a record with texts that are tested, and with any bytes for them

lax_raw : Lax raw text
unfolding raw text
lax_raw = record { lax = λ l m e. by_count ((whole count).get l) m e }
  where
    by_utf8 : (s : Text) (l : Bits) (t : Bool) (m : Bits) → behind {A = Text} (when t (s, l)) ≡ Some m → Some l ≡ Some m
    by_utf8 s l true m e = e
    by_utf8 s l false m e = cc

    by_room : (x : ℕ × Bits) (t : Bool) (m : Bits)
        → behind {A = Text} (if t then None else when (is_utf8 (bytes_up_to x.0 x.1)) (bytes_up_to x.0 x.1, drop (8 * x.0) x.1)) ≡ Some m
        → behind {A = Text} (if t then None else Some (bytes_up_to x.0 x.1, drop (8 * x.0) x.1)) ≡ Some m
    by_room x true m e = e
    by_room x false m e = by_utf8 (bytes_up_to x.0 x.1) (drop (8 * x.0) x.1) (is_utf8 (bytes_up_to x.0 x.1)) m e

    by_count : (o : Option (ℕ × Bits)) (m : Bits)
        → behind {A = Text} (o >>= λ x. if ltb (length x.1) (8 * x.0) then None else when (is_utf8 (bytes_up_to x.0 x.1)) (bytes_up_to x.0 x.1, drop (8 * x.0) x.1)) ≡ Some m
        → behind {A = Text} (o >>= λ x. if ltb (length x.1) (8 * x.0) then None else Some (bytes_up_to x.0 x.1, drop (8 * x.0) x.1)) ≡ Some m
    by_count None m e = e
    by_count (Some x) m e = by_room x (ltb (length x.1) (8 * x.0)) m e

pub lax_text : (check : Bool) → Lax (text_by check) text
unfolding text_by
lax_text true = lax_same text
lax_text false = lax_raw

-- five fields before the others
pub regroup_five : {A B C D E F : Type 0} (a : Format A) (b : Format B) (c : Format C) (d : Format D) (e : Format E) (f : Format F)
    → Regroups (a ⊗ b ⊗ c ⊗ d ⊗ e ⊗ f) ((a ⊗ b ⊗ c ⊗ d ⊗ e) ⊗ f) (λ v. ((v.0, (v.1.0, (v.1.1.0, (v.1.1.1.0, v.1.1.1.1.0)))), v.1.1.1.1.1))
regroup_five a b c d e f = regroup_more a (b ⊗ c ⊗ d ⊗ e) f (regroup_more b (c ⊗ d ⊗ e) f (regroup_more c (d ⊗ e) f (regroup_more d e f (regroup_none (e ⊗ f)))))

like_activity : Like (activity_parts text) activity
unfolding activity_parts activity_rest activity
like_activity = like_then (regroup_like (regroup_five text text (code 0 2) number (optional number) _)) (like_named _ _ _)

like_resource : Like (resource_parts text) resource
unfolding resource_parts resource
like_resource = like_then (regroup_like (regroup_five text text (code 0 2) text number _)) (like_named _ _ _)

module _ (check : Bool) where
  pub lax_calendar : Lax (calendar_parts (text_by check)) calendar
  unfolding calendar_parts calendar
  lax_calendar = lax_of (lax-⊗ (lax_text check) (lax_same _)) (like_named _ _ _)

  pub lax_activity_head : Lax (activity_head (text_by check)) (activity_head text)
  lax_activity_head = let t = lax_text check in lax-⊗ t (lax-⊗ t (lax_same _))

  pub lax_resource_head : Lax (resource_head (text_by check)) (resource_head text)
  lax_resource_head = let t = lax_text check in lax-⊗ t (lax-⊗ t (lax-⊗ (lax_same _) (lax-⊗ t (lax_same _))))

  lax_activity_parts : Lax (activity_parts (text_by check)) (activity_parts text)
  unfolding activity_parts activity_rest
  lax_activity_parts =
      let t = lax_text check in
      let rest = lax-⊗ (lax_optional t) (lax-⊗ (lax_same _) (lax-⊗ (lax_same _) (lax-⊗ (lax_same _) (lax-⊗ (lax_same _) (lax-⊗ (lax_same _) (lax-⊗ (lax_same _) (lax-⊗ (lax_same _) t))))))) in
      lax-⊗ lax_activity_head (lax-⊗ (lax_same _) (lax-⊗ t rest))

  lax_resource_parts : Lax (resource_parts (text_by check)) (resource_parts text)
  unfolding resource_parts
  lax_resource_parts = lax-⊗ lax_resource_head (lax-⊗ (lax_optional (lax_text check)) (lax_same _))

  pub lax_activity : Lax (activity_parts (text_by check)) activity
  lax_activity = lax_of lax_activity_parts like_activity

  pub lax_resource : Lax (resource_parts (text_by check)) resource
  lax_resource = lax_of lax_resource_parts like_resource

  pub lax_expense : Lax (expense_parts (text_by check)) expense
  unfolding expense_parts expense
  lax_expense = lax_of (lax-⊗ (lax_same _) (lax-⊗ (lax_text check) (lax_same _))) (like_named _ _ _)

pub lax_link : Lax link_parts link
unfolding link_parts link
lax_link = lax_of (lax_same _) (like_named _ _ _)

pub lax_assignment : Lax assignment_parts assignment
unfolding assignment_parts assignment
lax_assignment = lax_of (lax_same _) (like_named _ _ _)

-- ---- the records of the sections: with tests they are the definition's; without, they pass over what it passes over

pub strict_calendars : Like (record_of true Calendars) (whole calendar)
unfolding record_of text_by calendar_parts calendar
strict_calendars = like_then (like_passed _) (like_whole (like_named _ _ _))

pub strict_activities : Like (record_of true Activities) (whole activity)
unfolding record_of text_by
strict_activities = like_then (like_passed _) (like_whole like_activity)

pub strict_links : Like (record_of true Links) (whole link)
unfolding record_of link_parts link
strict_links = like_then (like_passed _) (like_whole (like_named _ _ _))

pub strict_resources : Like (record_of true Resources) (whole resource)
unfolding record_of text_by
strict_resources = like_then (like_passed _) (like_whole like_resource)

pub strict_assignments : Like (record_of true Assignments) (whole assignment)
unfolding record_of assignment_parts assignment
strict_assignments = like_then (like_passed _) (like_whole (like_named _ _ _))

pub strict_expenses : Like (record_of true Expenses) (whole expense)
unfolding record_of text_by expense_parts expense
strict_expenses = like_then (like_passed _) (like_whole (like_named _ _ _))

pub lax_calendars : (check : Bool) → Lax (record_of check Calendars) (whole calendar)
unfolding record_of
lax_calendars check = lax_like (like_passed _) (lax_whole (lax_calendar check))

pub lax_activities : (check : Bool) → Lax (record_of check Activities) (whole activity)
unfolding record_of
lax_activities check = lax_like (like_passed _) (lax_whole (lax_activity check))

pub lax_links : (check : Bool) → Lax (record_of check Links) (whole link)
unfolding record_of
lax_links check = lax_like (like_passed _) (lax_whole lax_link)

pub lax_resources : (check : Bool) → Lax (record_of check Resources) (whole resource)
unfolding record_of
lax_resources check = lax_like (like_passed _) (lax_whole (lax_resource check))

pub lax_assignments : (check : Bool) → Lax (record_of check Assignments) (whole assignment)
unfolding record_of
lax_assignments check = lax_like (like_passed _) (lax_whole lax_assignment)

pub lax_expenses : (check : Bool) → Lax (record_of check Expenses) (whole expense)
unfolding record_of
lax_expenses check = lax_like (like_passed _) (lax_whole (lax_expense check))
