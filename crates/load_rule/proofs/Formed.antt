-- Document 01, refusal 14, "tables malformed": never of what an accepted load leaves. Assumes nothing.
use Rattle.std.specs.Prelude.{Ok}
use mathlib.Core.Path.{◌≡◌, refl, sym, ◌∙◌, ap}
use mathlib.Core.Bool.{true, false}
use mathlib.Core.List.{List, [], ◌∷◌, ◌++◌}
use mathlib.Core.Logic.{◌⊎◌, inl, inr}
use Prim.Native.Nat.{ℕ, ◌+◌, ◌-◌, ◌≤◌, ◌<◌}
use native.Mathlib.Omega.{arith}
use lib.ListN.{length, replicate, length-append, length-replicate}
use borrow.Author.Tests.{eq-eqb}
use Rattle.ground.proofs.Cases.{le_or_lt}
use Rattle.text_utf8.specs.Grammar.{Utf8Octets}
use Rattle.text_utf8.proofs.Boundaries.{Texts}
use Rattle.text_utf8.proofs.Grammatical.{valid_iff}
use Rattle.line.specs.declared.line.Line.{Line}
use Rattle.line.specs.declared.line.Line.TheVariants.{Blank, Comment, Class, Field, Method, Refused}
use Rattle.line.specs.Kinds.{line_of}
use Rattle.ground.specs.Look.{Look}
use Rattle.ground.specs.Join.{join}
use Rattle.table_rows.specs.Classes.{Pair}
use Rattle.descriptor.proofs.Octets.{Pairs, no_pair, a_pair}
use Rattle.table_rows.specs.declared.rows.Ranges.{Ranges}
use Rattle.table_rows.specs.declared.rows.Ranges.TheVariants.{None, Display, Both}
use Rattle.tables.specs.declared.check.Used.{Used}
use Rattle.table_rows.specs.Rows.{flag_of, zero_class, zero_member}
use Rattle.tables.specs.Check.{all_of, class_fine, member_fine, well_formed}
use Rattle.tables.proofs.Checking.{FineText, all_none, all_cons, FineCounts, class_fine_lem, member_fine_lem, well_formed_rows}
use Rattle.tables.proofs.Holding.{Holds, holds_all, holds_as, holds_first, holds_second, holds_fine, nothing_fine}
use Rattle.load_rule.specs.declared.Fates.{Fates}
use Rattle.load_rule.specs.Comments.{residual_in}
use Rattle.load_rule.specs.Fates.{fates_from, ownerless, fault_of, class_line, loaded_with}
use Rattle.load_rule.specs.Classes.{classes_of, class_text, class_pool, class_row, class_rows}
use Rattle.load_rule.specs.Members.{MemberKind, field, method, Entry, Under, under, under_after, entry_in, entries_from, display_text, entry_text, entry_pool, kind_number, owner_at, entry_row, entry_rows}
use Rattle.load_rule.specs.Loading.{Lent, entries_of, pool_of, class_rows_of, member_rows_of, answer_of, lines_str, lines_parse, classes_left, members_left, pool_left}
use Rattle.load_rule.proofs.Appended.{rows_length}
use Rattle.load_rule.proofs.Sums.{fates_sum, class_count, member_count}
use Rattle.load_rule.proofs.First.{Clean, sound_clean, classes_cons}
use Rattle.load_rule.specs.Theorems.{Fitted, used_of}
use Rattle.load_rule.proofs.Exactly.{loaded_iff, loaded_leaves}
use Rattle.load_rule.proofs.Octets.{KindOctets, EntryOctets, Entries, no_entry_lem, an_entry, str_texts, parse_texts, pool_texts}
use Rattle.load_rule.specs.Laid.{rows_from}
use Rattle.text_white.proofs.Cuts.{texts_as}
use Rattle.load_rule.specs.declared.Loaded.{Loaded}

-- A member's class row: a member line is sound only behind a class line.
data Below (count : ℕ) : List Entry → Type 0 where
  none_below : Below count []
  below : {e : Entry} {es : List Entry} → e.class < count → Below count es → Below count (e ∷ es)

append_below : {count : ℕ} {a b : List Entry} → Below count a → Below count b → Below count (a ++ b)
append_below none_below q = q
append_below (below h p) q = below h (append_below p q)

below_as : {m n : ℕ} {es : List Entry} → m ≡ n → Below m es → Below n es
below_as e b = rw e at b

owned : (classes : ℕ) → ownerless classes 0 ≡ 0 → 0 < classes
owned classes e = go (le_or_lt classes 0)
  where
    go : (classes ≤ 0) ⊎ (0 < classes) → 0 < classes
    go (inl h) = absurd (let z : classes ≡ 0 = omega arith in let f = rw (eq-eqb classes 0 z) at e in omega arith)
    go (inr h) = h

entry_below : (cs : List Pair) (u : Under) (g : Look) (l : List ℕ) (k : Line) (count : ℕ) → fault_of u.count k ≡ 0 → u.count ≤ count → Below count (entry_in cs u g l k)
entry_below cs u g l Blank count e h = none_below
entry_below cs u g l (Comment brace) count e h = none_below
entry_below cs u g l (Class display raw) count e h = none_below
entry_below cs u g l (Field declared name raw) count e h = let o = owned u.count e in let less : u.count - 1 < count = omega arith in below less none_below
entry_below cs u g l (Method m raw) count e h = let o = owned u.count e in let less : u.count - 1 < count = omega arith in below less none_below
entry_below cs u g l (Refused r) count e h = none_below

count_after : (u : Under) (l : List ℕ) (k : Line) → (under_after u l k).count ≡ u.count + class_line k
count_after u l Blank = omega arith
count_after u l (Comment brace) = omega arith
count_after u l (Class display raw) = refl
count_after u l (Field declared name raw) = omega arith
count_after u l (Method m raw) = omega arith
count_after u l (Refused r) = omega arith

clean_as : {m n : ℕ} (ls : List (List ℕ)) → m ≡ n → Clean m ls → Clean n ls
clean_as ls e c = rw e at c

entries_below : (cs : List Pair) (u : Under) (ls : List (List ℕ)) → Clean u.count ls → Below (u.count + length (classes_of ls)) (entries_from cs u ls)
unfolding entries_from Clean
entries_below cs u [] c = none_below
entries_below cs u (l ∷ ls) (e, c) =
    let after : Under = under_after u l (line_of l) in
    let n = count_after u l (line_of l) in
    let m = classes_cons l ls in
    let total : after.count + length (classes_of ls) ≡ u.count + length (classes_of (l ∷ ls)) = omega arith in
    append_below (entry_below cs u (residual_in ls) l (line_of l) (u.count + length (classes_of (l ∷ ls))) e (omega arith))
    (below_as total (entries_below cs after ls (clean_as ls (sym n) c)))

-- Rows over a pool that holds their texts.
module _ (pool : List ℕ) (used : Used) where
  class_row_fine : (p : ℕ) (c : Pair) → Utf8Octets c.raw → Utf8Octets c.display → Holds pool used p (class_text c) → class_fine pool used (class_row p c) ≡ true
  class_row_fine p c r d h =
      class_fine_lem pool used (class_row p c)
      (record { raw = holds_fine (holds_first c.raw c.display h) r; display = holds_fine (holds_second c.raw c.display h) d })

  class_rows_fine : {cs : List Pair} → Pairs cs → (p : ℕ) → Holds pool used p (class_pool cs) → all_of (class_fine pool used) (class_rows p cs) ≡ true
  unfolding rows_from join
  class_rows_fine no_pair p h = all_none (class_fine pool used)
  class_rows_fine (a_pair {c} {cs} r d ps) p h =
      all_cons (class_fine pool used) (class_row p c) (class_rows (p + length (class_text c)) cs)
      (class_row_fine p c r d (holds_first (class_text c) (class_pool cs) h))
      (class_rows_fine ps (p + length (class_text c)) (holds_second (class_text c) (class_pool cs) h))

  kind_fine : (k : MemberKind) → kind_number k ≤ 1
  kind_fine field = omega arith
  kind_fine (method o g) = omega arith

  ranges_fine : (c p : ℕ) (r d n o : List ℕ) (g : Ranges) →
      flag_of (entry_row p (record { class = c; raw_name = r; descriptor = d; name = n; kind = method o g })) ≤ 2
  ranges_fine c p r d n o None = omega arith
  ranges_fine c p r d n o (Display a e) = omega arith
  ranges_fine c p r d n o (Both q b a e) = omega arith

  flag_fine : (c p : ℕ) (r d n : List ℕ) (k : MemberKind) → flag_of (entry_row p (record { class = c; raw_name = r; descriptor = d; name = n; kind = k })) ≤ 2
  flag_fine c p r d n field = omega arith
  flag_fine c p r d n (method o g) = ranges_fine c p r d n o g

  name_held : (p : ℕ) (n : List ℕ) (k : MemberKind) → Holds pool used p (display_text n k) → Holds pool used p n
  name_held p n field h = h
  name_held p n (method o g) h = holds_first n o h

  owner_fine : (p : ℕ) (n : List ℕ) (k : MemberKind) → KindOctets k → Holds pool used p (display_text n k) → FineText pool used (owner_at (p + length n) k)
  owner_fine p n field w h = nothing_fine
  owner_fine p n (method o g) w h = holds_fine (holds_second n o h) w

  entry_row_fine : (p : ℕ) (e : Entry) → e.class < used.classes → EntryOctets e → Holds pool used p (entry_text e) → member_fine pool used (entry_row p e) ≡ true
  entry_row_fine p e l (a, b, c, w) h =
      let rest = holds_second e.raw_name (e.descriptor ++ display_text e.name e.kind) h in
      let last = holds_second e.descriptor (display_text e.name e.kind) rest in
      member_fine_lem pool used (entry_row p e)
      (record {
        class_row_lem = l;
        kind = kind_fine e.kind;
        flag = flag_fine e.class p e.raw_name e.descriptor e.name e.kind;
        raw_name_lem = holds_fine (holds_first e.raw_name (e.descriptor ++ display_text e.name e.kind) h) a;
        descriptor = holds_fine (holds_first e.descriptor (display_text e.name e.kind) rest) b;
        name = holds_fine (name_held (p + length e.raw_name + length e.descriptor) e.name e.kind last) c;
        owner = owner_fine (p + length e.raw_name + length e.descriptor) e.name e.kind w last;
      })

  entry_rows_fine : {es : List Entry} → Entries es → Below used.classes es → (p : ℕ) → Holds pool used p (entry_pool es) →
      all_of (member_fine pool used) (entry_rows p es) ≡ true
  unfolding rows_from join
  entry_rows_fine no_entry_lem none_below p h = all_none (member_fine pool used)
  entry_rows_fine (an_entry {e} {es} o q) (below l b) p h =
      all_cons (member_fine pool used) (entry_row p e) (entry_rows (p + length (entry_text e)) es)
      (entry_row_fine p e l o (holds_first (entry_text e) (entry_pool es) h))
      (entry_rows_fine q b (p + length (entry_text e)) (holds_second (entry_text e) (entry_pool es) h))

-- what is lent, filled up with zeros
filled_length : {A : Type 0} (z : A) (used : List A) (n : ℕ) → length used ≤ n → length (used ++ replicate (n - length used) z) ≡ n
filled_length z used n h = let a = length-append used (replicate (n - length used) z) in let b = length-replicate (n - length used) z in omega arith

module _ (s : List ℕ) (ls : List (List ℕ)) (n : Lent) {z : Loaded} (e : answer_of s ls n ≡ Ok z) where
  fitted : Fitted s ls n z.fates z.names
  fitted = (loaded_iff s ls n z.fates z.names).0 e

  class_total : z.fates.class ≡ length (classes_of ls)
  class_total = ap (λ x. x.class) (fates_sum ls fitted.passed.sound).is ∙ class_count false ls

  member_total : z.fates.field + z.fates.method ≡ length (entries_of ls)
  member_total = ap (λ x. x.field + x.method) (fates_sum ls fitted.passed.sound).is ∙ member_count false (classes_of ls) (under 0 []) ls

  pub class_rows_total : length (class_rows_of ls) ≡ z.fates.class
  class_rows_total = rows_length class_row class_text 0 (classes_of ls) ∙ sym class_total

  pub member_rows_total : length (member_rows_of ls) ≡ z.fates.field + z.fates.method
  member_rows_total = rows_length entry_row entry_text (length (class_pool (classes_of ls))) (entries_of ls) ∙ sym member_total

  under_classes : Below z.fates.class (entries_of ls)
  under_classes =
      let c = sound_clean (fates_from false ls) 1 0 ls fitted.passed.sound in
      let t = class_total in
      below_as (omega arith) (entries_below (classes_of ls) (under 0 []) ls c)

  module _ (rest : List ℕ) where
    pub whole : Holds (pool_of ls ++ rest) (used_of z.fates z.names) 0 (pool_of ls)
    whole = holds_all (pool_of ls) rest (used_of z.fates z.names) fitted.named

    classes_fine : Pairs (classes_of ls) → all_of (class_fine (pool_of ls ++ rest) (used_of z.fates z.names)) (class_rows_of ls) ≡ true
    classes_fine p = class_rows_fine (pool_of ls ++ rest) (used_of z.fates z.names) p 0 (holds_first (class_pool (classes_of ls)) (entry_pool (entries_of ls)) whole)

    members_fine : Entries (entries_of ls) → all_of (member_fine (pool_of ls ++ rest) (used_of z.fates z.names)) (member_rows_of ls) ≡ true
    members_fine q =
        entry_rows_fine (pool_of ls ++ rest) (used_of z.fates z.names) q under_classes (length (class_pool (classes_of ls)))
        (holds_as (omega arith) (holds_second (class_pool (classes_of ls)) (entry_pool (entries_of ls)) whole))

  counts_fine_lem :
      FineCounts (length (class_rows_of ls ++ replicate (n.classes - length (class_rows_of ls)) zero_class))
      (length (member_rows_of ls ++ replicate (n.members - length (member_rows_of ls)) zero_member))
      (length (pool_of ls ++ replicate (n.pool - length (pool_of ls)) 0)) (used_of z.fates z.names)
  counts_fine_lem =
      let k = fitted in
      let a = k.class_rows_lem in
      let b = k.member_rows in
      let c = k.pool_bytes in
      let d = k.named in
      let x = class_rows_total in
      let y = member_rows_total in
      let classes = filled_length zero_class (class_rows_of ls) n.classes (omega arith) in
      let members = filled_length zero_member (member_rows_of ls) n.members (omega arith) in
      let pool = filled_length 0 (pool_of ls) n.pool (omega arith) in
      record { class_rows_lem = rw classes a; member_rows = rw members b; pool_bytes = rw (pool, d) c }

  -- where the lines are well formed
  lines_formed : Texts ls → well_formed (classes_left s ls n) (members_left s ls n) (pool_left s ls n) (used_of z.fates z.names) ≡ true
  lines_formed t =
      let (a, b, c) = loaded_leaves s ls n e in
      let (p, q) = pool_texts t in
      let rest : List ℕ = replicate (n.pool - length (pool_of ls)) 0 in
      rw (a, b, c)
      (well_formed_rows (class_rows_of ls) (replicate (n.classes - length (class_rows_of ls)) zero_class)
      (member_rows_of ls) (replicate (n.members - length (member_rows_of ls)) zero_member)
      (pool_of ls ++ rest) (used_of z.fates z.names) class_rows_total member_rows_total counts_fine_lem (classes_fine rest p) (members_fine rest q))

  octets : Utf8Octets s
  octets = (valid_iff s).0 fitted.passed.valid

-- the rows and the pool of an accepted load are never refused with 14, be it by `parse_str` or by `parse`
pub never_malformed : (s : List ℕ) (ls : List (List ℕ)) (n : Lent) {x : Loaded} → (ls ≡ lines_str s) ⊎ (ls ≡ lines_parse s) → answer_of s ls n ≡ Ok x →
    well_formed (classes_left s ls n) (members_left s ls n) (pool_left s ls n) (used_of x.fates x.names) ≡ true
never_malformed s ls n {x} (inl q) e = lines_formed s ls n e (texts_as (sym q) (str_texts (octets s ls n e)))
never_malformed s ls n {x} (inr q) e = lines_formed s ls n e (texts_as (sym q) (parse_texts (octets s ls n e)))
