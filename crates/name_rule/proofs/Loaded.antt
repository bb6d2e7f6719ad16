-- The mapping that is read back from what an accepted load has written is the one that was loaded. Assumes nothing.
use Rattle.std.specs.Prelude.{Ok}
use mathlib.Core.Path.{◌≡◌, refl}
use mathlib.Core.List.{List, ◌++◌}
use Prim.Native.Nat.{ℕ, ◌+◌, ◌-◌}
use native.Mathlib.Omega.{arith}
use lib.ListN.{length, take, replicate}
use lib.Seq.{take-append_seam}
use Rattle.table_rows.specs.declared.rows.Ranges.{Ranges}
use Rattle.table_rows.specs.declared.rows.Ranges.TheVariants.{None, Display, Both}
use Rattle.table_rows.specs.Rows.{text, zero_class, zero_member}
use Rattle.table_rows.specs.Tables.{tables}
use Rattle.tables.specs.declared.check.Used.{Used}
use Rattle.tables.specs.Back.{text_in, read_back}
use Rattle.tables.proofs.Holding.{Holds, holds_first, holds_second, holds_as}
use Rattle.load_rule.specs.declared.Fates.{Fates}
use Rattle.load_rule.specs.Classes.{class_pool, classes_of}
use Rattle.load_rule.specs.Members.{MemberKind, field, method, Entry, display_text, entry_text, entry_pool, entry_row, entry_rows}
use Rattle.load_rule.specs.Loading.{Lent, entries_of, class_rows_of, member_rows_of, pool_of, answer_of, classes_left, members_left, pool_left}
use Rattle.load_rule.specs.Theorems.{used_of}
use Rattle.load_rule.proofs.Back.{laid_back, class_rows_back}
use Rattle.load_rule.proofs.Exactly.{loaded_leaves}
use Rattle.load_rule.proofs.Formed.{class_rows_total, member_rows_total, whole}
use Rattle.name_rule.specs.Mappings.{entry_back, entries_back, mapping, mapping_of}
use Rattle.load_rule.specs.Fates.{loaded_with}
use Rattle.load_rule.specs.declared.Loaded.{Loaded}

module _ (pool : List ℕ) (used : Used) where
  -- the four texts of a method
  record Texts (p : ℕ) (r d n o : List ℕ) : Type 0 where
    raw_name_lem : text_in pool (text p (length r)) ≡ r
    descriptor : text_in pool (text (p + length r) (length d)) ≡ d
    name : text_in pool (text (p + length r + length d) (length n)) ≡ n
    owner : text_in pool (text (p + length r + length d + length n) (length o)) ≡ o

  texts : (p : ℕ) (r d n o : List ℕ) → Holds pool used p (r ++ (d ++ (n ++ o))) → Texts p r d n o
  texts p r d n o h =
      let rest = holds_second r (d ++ (n ++ o)) h in
      let last = holds_second d (n ++ o) rest in
      record { raw_name_lem = (holds_first r (d ++ (n ++ o)) h).is; descriptor = (holds_first d (n ++ o) rest).is; name = (holds_first n o last).is; owner = (holds_second n o last).is }

  method_back : (p c : ℕ) (r d n o : List ℕ) (g : Ranges) → Texts p r d n o →
      entry_back pool (entry_row p (record { class = c; raw_name = r; descriptor = d; name = n; kind = method o g }))
      ≡ record { class = c; raw_name = r; descriptor = d; name = n; kind = method o g }
  method_back p c r d n o None h = rw (h.raw_name_lem, h.descriptor, h.name, h.owner)
  method_back p c r d n o (Display x y) h = rw (h.raw_name_lem, h.descriptor, h.name, h.owner)
  method_back p c r d n o (Both v w x y) h = rw (h.raw_name_lem, h.descriptor, h.name, h.owner)

  entry_back_lem : (p : ℕ) (e : Entry) → Holds pool used p (entry_text e) → entry_back pool (entry_row p e) ≡ e
  entry_back_lem p e h = go e.kind h
    where
      go : (k : MemberKind) → Holds pool used p (e.raw_name ++ (e.descriptor ++ display_text e.name k)) →
          entry_back pool (entry_row p (record { class = e.class; raw_name = e.raw_name; descriptor = e.descriptor; name = e.name; kind = k }))
          ≡ record { class = e.class; raw_name = e.raw_name; descriptor = e.descriptor; name = e.name; kind = k }
      go field g =
          let rest = holds_second e.raw_name (e.descriptor ++ e.name) g in
          rw ((holds_first e.raw_name (e.descriptor ++ e.name) g).is, (holds_first e.descriptor e.name rest).is, (holds_second e.descriptor e.name rest).is)
      go (method o r) g = method_back p e.class e.raw_name e.descriptor e.name o r (texts p e.raw_name e.descriptor e.name o g)

  entries_back_lem : (p : ℕ) (es : List Entry) → Holds pool used p (entry_pool es) → entries_back (entry_rows p es) pool ≡ es
  entries_back_lem p es h = laid_back pool used entry_row entry_text (entry_back pool) entry_back_lem p es h

-- "a look-up after a load is one statement from text to name"
module _ (s : List ℕ) (ls : List (List ℕ)) (n : Lent) {x : Loaded} (e : answer_of s ls n ≡ Ok x) where
  pub mapping_loaded : mapping_of (tables (classes_left s ls n) (members_left s ls n) (pool_left s ls n)) (used_of x.fates x.names) ≡ mapping (classes_of ls) (entries_of ls)
  mapping_loaded =
      let (a, b, c) = loaded_leaves s ls n e in
      let classes : take x.fates.class (classes_left s ls n) ≡ class_rows_of ls =
      rw (a, ← class_rows_total s ls n e) (take-append_seam (class_rows_of ls) (replicate (n.classes - length (class_rows_of ls)) zero_class)) in
      let members : take (x.fates.field + x.fates.method) (members_left s ls n) ≡ member_rows_of ls =
      rw (b, ← member_rows_total s ls n e) (take-append_seam (member_rows_of ls) (replicate (n.members - length (member_rows_of ls)) zero_member)) in
      let rest : List ℕ = replicate (n.pool - length (pool_of ls)) 0 in
      let held = whole s ls n e rest in
      let cs : read_back (class_rows_of ls) (pool_of ls ++ rest) ≡ classes_of ls =
      class_rows_back (pool_of ls ++ rest) (used_of x.fates x.names) 0 (classes_of ls) (holds_first (class_pool (classes_of ls)) (entry_pool (entries_of ls)) held) in
      let es : entries_back (member_rows_of ls) (pool_of ls ++ rest) ≡ entries_of ls =
      entries_back_lem (pool_of ls ++ rest) (used_of x.fates x.names) (length (class_pool (classes_of ls))) (entries_of ls)
      (holds_as (omega arith) (holds_second (class_pool (classes_of ls)) (entry_pool (entries_of ls)) held)) in
      rw (classes, members, c, cs, es) refl
