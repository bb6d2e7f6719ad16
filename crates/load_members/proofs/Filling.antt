-- What is written up to a place of a text, and what is left: the start and the end. Assumes nothing.
use Rattle.std.specs.Prelude.{Err}
use mathlib.Core.Path.{◌≡◌, refl, sym, ◌∙◌, ap}
use mathlib.Core.Bool.{Bool, false}
use mathlib.Core.List.{List, [], ◌++◌, append-nil}
use Prim.Native.Nat.{ℕ, ◌+◌, ◌-◌, ◌≤◌}
use native.Mathlib.Nat.{zero-add}
use native.Mathlib.Omega.{arith}
use lib.ListN.{length, drop}
use Rattle.ground.proofs.PutLaws.{put_nothing}
use Rattle.text_places.specs.Lines.{lines}
use Rattle.text_places.proofs.Taking.{end_taken}
use Rattle.text_places.specs.Spans.{span, part_of, Lies}
use Rattle.ground.specs.Join.{join}
use Rattle.table_rows.specs.Rows.{most_pool}
use Rattle.tables.specs.Back.{read_back}
use Rattle.load_raw_types.specs.Inner.Behind.{Indexed}
use Rattle.load_rule.specs.declared.Fates.{Fates}
use Rattle.load_rule.specs.Loading.{most_text}
use Rattle.load_rule.specs.Fates.{no_fates, faults_from, scan_of, fault_at}
use Rattle.load_rule.specs.Members.{Entry, under, entries_from}
use Rattle.load_scan.specs.Inner.Bounds.{Within}
use Rattle.load_scan.proofs.Stepping.{step_ended, step_faulty}
use Rattle.load_scan.proofs.Scanning.{Scanning, scan_end}
use Rattle.load_scan.specs.declared.step.Step.{Step}
use Rattle.load_scan.specs.declared.step.Step.TheVariants as steps
use Rattle.load_members.specs.declared.enter.Slot.{Slot}
use Rattle.load_scan.specs.Inner.Steps.{scan_on, StepBy}
use Rattle.load_members.specs.Inner.Enters.{slot_at}
use Rattle.load_members.specs.Inner.Filled.{Holding, members, WrittenAll}
use Rattle.load_texts.proofs.Typing.{written_nothing}
use Rattle.load_rule.specs.Laid.{rows_from}

-- the rule starts with nothing counted
pub from_nothing : (ls : List (List ℕ)) → scan_on no_fates false ls ≡ scan_of ls
from_nothing ls = ap (λ f. faults_from f 1 0 ls) (simp zero-add)

-- what is written up to the place `at`, and what is left
pub record Filling (s : List ℕ) (rows : List (List ℕ)) (index : List ℕ) (used : ℕ) (m₀ : List (List ℕ)) (p₀ : List ℕ)
    (at : ℕ) (t : Slot) (member : Bool) (f : Fates) (m : List (List ℕ)) (p : List ℕ) : Type 0 where
  pub short : length s ≤ most_text
  pub most : length p₀ ≤ most_pool
  pub scanning : Scanning s 0 no_fates false at f member
  pub done : List Entry
  pub split : members (lines s) (read_back rows p₀) ≡ done ++ entries_from (read_back rows p₀) (under f.class (part_of s (span t.own t.own_end))) (lines (drop at s))
  pub held : Holding done used t.place m₀ p₀ m p
  pub counts : t.row ≡ length done
  pub classes : t.classes ≡ f.class
  pub indexed : Indexed rows p index t.place
  pub same : read_back rows p ≡ read_back rows p₀
  pub lies : Lies (span t.own t.own_end) (length s)
  pub pool_size : length p ≡ length p₀
  pub rows_size : length m ≡ length m₀

pub filling_starts : (s : List ℕ) (rows : List (List ℕ)) (index : List ℕ) (used : ℕ) (m₀ : List (List ℕ)) (p₀ : List ℕ) → length s ≤ most_text → length p₀ ≤ most_pool → Indexed rows p₀ index used →
    {f : Fates} → f ≡ no_fates → {t : Slot} → t ≡ slot_at 0 used 0 0 0 → Filling s rows index used m₀ p₀ 0 t false f m₀ p₀
unfolding join rows_from
filling_starts s rows index used m₀ p₀ h most x g e = rw (g, e) (record {
  short = h;
  most = most;
  scanning = record {
    inside = omega arith;
    within = record { lines = omega arith; blank = omega arith; applied = omega arith; idle = omega arith; class = omega arith; field = omega arith; method = omega arith; short = omega arith };
    decides = refl;
  };
  done = [];
  split = refl;
  held = record { room = omega arith; rows = sym (put_nothing m₀ 0); texts = written_nothing p₀ used x.below.room };
  counts = refl;
  classes = refl;
  indexed = x;
  same = refl;
  lies = record { order = omega arith; within = omega arith };
  pool_size = refl;
  rows_size = refl;
})

module _ {s : List ℕ} {rows : List (List ℕ)} {index : List ℕ} {used : ℕ} {m₀ : List (List ℕ)} {p₀ : List ℕ}
    {at : ℕ} {t : Slot} {member : Bool} {f : Fates} {m : List (List ℕ)} {p : List ℕ}
    (k : Filling s rows index used m₀ p₀ at t member f m p) where
  -- The end.
  ended : lines (drop at s) ≡ [] → WrittenAll f (lines s) (read_back rows p₀) used t.place m₀ p₀ m p
  unfolding entries_from
  ended e =
      let all : members (lines s) (read_back rows p₀) ≡ k.done = k.split ∙ ap (λ ls. k.done ++ entries_from (read_back rows p₀) (under f.class (part_of s (span t.own t.own_end))) ls) e ∙ append-nil k.done in
      record { scanned = sym (from_nothing (lines s)) ∙ sym k.scanning.decides ∙ ap (scan_on f member) e ∙ scan_end f member; held = rw all k.held }

  pub filling_ends : length s ≤ at → WrittenAll f (lines s) (read_back rows p₀) used t.place m₀ p₀ m p
  filling_ends h = ended (end_taken s at h)

  pub filling_none : (r : Step) → StepBy r s at f.class member → r ≡ steps.End → WrittenAll f (lines s) (read_back rows p₀) used t.place m₀ p₀ m p
  filling_none r w q = ended (step_ended s at f.class member r w q)

  pub filling_fault : (r : Step) → StepBy r s at f.class member → {number : ℕ} → r ≡ steps.Faulty number → scan_of (lines s) ≡ Err (fault_at number (f.lines + 1))
  filling_fault r w q = sym (from_nothing (lines s)) ∙ sym k.scanning.decides ∙ step_faulty s at f.class member r w q f refl

  pub filling_text : length s ≤ most_text
  filling_text = k.short

  pub filling_inside_text : at ≤ length s
  filling_inside_text = k.scanning.inside

  pub filling_counted : Within f at
  filling_counted = k.scanning.within
