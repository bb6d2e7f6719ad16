-- The answer of each way through the entry point. Assumes nothing.
use Rattle.std.specs.Prelude.{Result, Err}
use mathlib.Core.Path.{◌≡◌, sym, ◌∙◌, ap}
use mathlib.Core.Bool.{Bool, true, false, not}
use mathlib.Core.List.{List, []}
use Prim.Native.Nat.{ℕ, ◌≤◌, ◌<◌}
use native.Mathlib.Omega.{arith}
use lib.ListN.{length, take, replicate, length-take, length-replicate}
use lib.Seq.{get_or-take}
use borrow.Author.Rules.{rules}
use borrow.Author.Tests.{le-leb, lt-leb, not-true, not-false}
use Rattle.ground.proofs.Parts.{prefix_whole}
use Rattle.table_rows.specs.Tables.{tables}
use Rattle.tables.specs.declared.check.Used.{Used}
use Rattle.tables.specs.Check.{well_formed}
use Rattle.tables.proofs.Checking.{formed, tested_formed, class_rows_lent, member_rows_lent}
use Rattle.tree_rule.specs.Checks.{well_formed_file}
use Rattle.apply_rule.specs.Applying.{applied_file, most_tree, apply_answer, apply_output}
use Rattle.apply_rule.specs.Inner.Plans.{mapping_in}
use Rattle.apply_plans.specs.Inner.Plan.{TextsLow}
use Rattle.apply.specs.Inner.Filled.{AcceptReady, fitting_answer, fitting_output}
use Rattle.apply_rule.specs.declared.ApplyError.{ApplyError}
use Rattle.apply_rule.specs.declared.ApplyError.TheVariants.{Malformed, TooLong, BadTree}

module _ (c m : List (List ℕ)) (p class f : List ℕ) (used : Used) (room : ℕ) {b : Bool} (w : b ≡ well_formed c m p used) where
  -- tables malformed
  pub malformed_answer : not b ≡ true → Err Malformed ≡ apply_answer (tables c m p) used class f room
  malformed_answer h = sym (rw (sym w ∙ not-true b h))

  pub malformed_output : not b ≡ true → {out : List ℕ} → out ≡ replicate room 0 → out ≡ apply_output (tables c m p) used class f room
  malformed_output h e = e ∙ sym (rw (sym w ∙ not-true b h))

  module _ (h : not b ≡ false) where
    -- the tree file too long
    pub long_answer : most_tree < length f → Err TooLong ≡ apply_answer (tables c m p) used class f room
    long_answer l = sym (rw (tested_formed c m p used w h, lt-leb (length f) most_tree l))

    pub long_output : most_tree < length f → {out : List ℕ} → out ≡ replicate room 0 → out ≡ apply_output (tables c m p) used class f room
    long_output l e = e ∙ sym (rw (tested_formed c m p used w h, lt-leb (length f) most_tree l))

    module _ (l : length f ≤ most_tree) {t : Bool} (v : t ≡ well_formed_file f) where
      -- the tree file malformed
      pub bad_answer : not t ≡ true → Err BadTree ≡ apply_answer (tables c m p) used class f room
      bad_answer g = sym (rw (tested_formed c m p used w h, le-leb (length f) most_tree l, sym v ∙ not-true t g))

      pub bad_output : not t ≡ true → {out : List ℕ} → out ≡ replicate room 0 → out ≡ apply_output (tables c m p) used class f room
      bad_output g e = e ∙ sym (rw (tested_formed c m p used w h, le-leb (length f) most_tree l, sym v ∙ not-true t g))

      module _ (g : not t ≡ false) where
        good : well_formed_file f ≡ true
        good = sym v ∙ not-false t g

        module _ {out : List ℕ} (e : out ≡ replicate room 0) where
          size : length out ≡ room
          size = ap length e ∙ length-replicate room 0

          pub accepted_answer : {r : Result ℕ ApplyError} → r ≡ fitting_answer (length out) (applied_file (mapping_in (take used.classes c) (take used.members m) p) class f) →
              r ≡ apply_answer (tables c m p) used class f room
          accepted_answer q =
              q ∙ ap (λ n. fitting_answer n (applied_file (mapping_in (take used.classes c) (take used.members m) p) class f)) size
              ∙ sym (rw (tested_formed c m p used w h, le-leb (length f) most_tree l, good))

          pub accepted_output : {new : List ℕ} → new ≡ fitting_output (length out) (applied_file (mapping_in (take used.classes c) (take used.members m) p) class f) →
              new ≡ apply_output (tables c m p) used class f room
          accepted_output q =
              q ∙ ap (λ n. fitting_output n (applied_file (mapping_in (take used.classes c) (take used.members m) p) class f)) size
              ∙ sym (rw (tested_formed c m p used w h, le-leb (length f) most_tree l, good))

-- texts of the tables stand in the pool, so that their places are low
texts_low : (c m : List (List ℕ)) (p : List ℕ) (used : Used) → well_formed c m p used ≡ true → TextsLow (take used.classes c) (take used.members m)
texts_low c m p used fine =
    let k = formed c m p used fine in
    let most = k.counts.pool_bytes in
    record {
      displays = λ i h.
          let l : i < used.classes = omega (arith, length-take used.classes c) in
          let t = (k.class_rows_lem i l).display.inside in
          rw (get_or-take used.classes c i [] l) (omega arith, omega arith);
      names = λ i h.
          let l : i < used.members = omega (arith, length-take used.members m) in
          let t = (k.member_rows i l).name.inside in
          rw (get_or-take used.members m i [] l) (omega arith, omega arith);
    }

pub accept_ready : (c m : List (List ℕ)) (p f : List ℕ) (used : Used) {b : Bool} → b ≡ well_formed c m p used → not b ≡ false →
    length f ≤ most_tree → {t : Bool} → t ≡ well_formed_file f → not t ≡ false →
    {out : List ℕ} (n : ℕ) → out ≡ replicate n 0 → AcceptReady (take used.classes c) (take used.members m) f out
accept_ready c m p f used {b} w h l {t} v g {out} n e =
    let fine = tested_formed c m p used w h in
    let z = (formed c m p used fine).counts.class_rows_lem in
    let y = (formed c m p used fine).counts.member_rows in
    record {
      formed = sym v ∙ not-false t g;
      file = l;
      zero = e ∙ ap (λ x. replicate x 0) (sym (ap length e ∙ length-replicate n 0));
      few_classes = omega (arith, length-take used.classes c);
      few_members = omega (arith, length-take used.members m);
      low = texts_low c m p used fine;
    }

pub ruleset applying = (
  malformed_answer,
  malformed_output,
  class_rows_lent,
  member_rows_lent,
  long_answer,
  long_output,
  bad_answer,
  bad_output,
  accept_ready,
  accepted_answer,
  accepted_output,
  prefix_whole,
  rules,
)
