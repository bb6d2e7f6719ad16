-- The member row that answers for a field, or else for a method, in one walk along the rows of a mark. Assumes nothing.
use Rattle.std.specs.Prelude.{Option, Some, None}
use mathlib.Core.Path.{◌≡◌, refl, sym, ◌∙◌, ap}
use mathlib.Core.Bool.{Bool, true, false, not}
use mathlib.Core.List.{List, []}
use Prim.Native.Nat.{ℕ, ◌+◌, ◌-◌, ◌≤◌, ◌<◌}
use native.Mathlib.Omega.{arith}
use lib.Dec.{eqb}
use lib.ListN.{length, get_or}
use borrow.Author.Tests.{not-true, not-false}
use borrow.Author.Rules.{rules}
use Rattle.ground.specs.Choice.{pick, both}
use Rattle.ground.specs.Look.{Look, known}
use Rattle.ground.proofs.Cases.{clash, both_false}
use Rattle.text_places.specs.Places.{same}
use Rattle.text_places.proofs.PlaceLaws.{same_refl}
use Rattle.table_rows.specs.declared.rows.Member.{Member}
use Rattle.table_rows.specs.Classes.{Pair, shown}
use Rattle.table_rows.specs.Rows.{unpack_class, unpack_member}
use Rattle.tables.specs.Back.{text_in, pair_of, read_back}
use Rattle.tables.specs.Search.{or_row, last_raw}
use Rattle.tables.proofs.Searching.{raw_found}
use Rattle.load_rule.specs.Members.{MemberKind, field, method, Entry}
use Rattle.name_rule.specs.Mappings.{member_back}
use Rattle.name_rule.specs.MemberNames.{Key, key, raw_of_row, is_text, matches, is_field_kind, is_method_kind, owned_by}
use Rattle.name_rule.specs.MemberRows.{last_member, field_row, method_row}
use Rattle.name_rule.proofs.Rows.{row_raw}
use Rattle.name_members.specs.Inner.Sought.{answers_by}
use Rattle.name_members.proofs.Matching.{class_beyond}
use Rattle.name_index.specs.Inner.Chains.{member_mark, Chained, Behind, first_wanted, else_wanted, wanted_by, wanted_row, Walked}
use Rattle.name_index.proofs.Walking.{
  mark_in_index,
  mark_doubled,
  behind_starts,
  behind_ends,
  row_inside,
  link_inside,
  link_fits,
  behind_falls,
  behind_found,
  behind_more,
}

-- The class of a member, by a class row.
module _ (rows : List (List ℕ)) (pool : List ℕ) (i class : ℕ) where
  abbrev class_raw : List ℕ
  class_raw = text_in pool (unpack_class (get_or rows class [])).raw

  pub class_itself : class < length rows → i ≡ class → true ≡ is_text (raw_of_row (read_back rows pool) i) class_raw
  class_itself h e = sym (rw (e, row_raw (pair_of pool) rows class h) (same_refl class_raw))

  pub class_other : i < length rows → {s : List ℕ} → s ≡ text_in pool (unpack_class (get_or rows i [])).raw → {t : List ℕ} → t ≡ class_raw →
      {b : Bool} → b ≡ same s t → b ≡ is_text (raw_of_row (read_back rows pool) i) class_raw
  class_other h {s} e f g =
      g ∙ ap (same s) f ∙ ap (λ x. same x class_raw) e ∙ sym (rw (row_raw (pair_of pool) rows i h))

pub ruleset same_class = (class_itself, class_other, class_beyond, rules)

-- A member that is wanted: by its kind, its raw name, its raw descriptor and its class.
both_true : (a : Bool) → both a true ≡ a
both_true true = refl
both_true false = refl

module _ (cs : List Pair) (pool owner name descriptor : List ℕ) (m : Member) (t : Bool) {a : Bool} (e : a ≡ pick (eqb m.kind 0) t (not t)) where
  abbrev wanted : Bool
  wanted = wanted_by t cs (key owner name descriptor) (member_back pool m)

  abbrev matched : Bool
  matched = matches cs (key owner name descriptor) (member_back pool m)

  by_kind : wanted ≡ both a matched
  by_kind = go t (eqb m.kind 0) ∙ ap (λ b. both b matched) (sym e)
    where
      go : (t b : Bool) → pick t (both (is_field_kind (pick b field (method (text_in pool m.owner) m.ranges))) matched)
          (both (is_method_kind (pick b field (method (text_in pool m.owner) m.ranges))) matched) ≡ both (pick b t (not t)) matched
      go true true = refl
      go true false = refl
      go false true = refl
      go false false = refl

  pub other_kind : not a ≡ true → false ≡ wanted
  other_kind h = sym (by_kind ∙ ap (λ b. both b matched) (not-true a h))

  module _ (h : not a ≡ false) {s : List ℕ} (f : s ≡ text_in pool m.raw_name) {b : Bool} (g : b ≡ same s name) where
    abbrev owned : Bool
    owned = is_text (raw_of_row cs m.class) owner

    abbrev typed : Bool
    typed = same (text_in pool m.descriptor) descriptor

    by_name : wanted ≡ both owned (both b typed)
    by_name =
        by_kind ∙ ap (λ z. both z matched) (not-false a h)
        ∙ ap (λ z. both owned (both z typed)) (ap (λ x. same x name) (sym f) ∙ sym g)

    pub other_name : not b ≡ true → false ≡ wanted
    other_name i = sym (by_name ∙ ap (λ z. both owned (both z typed)) (not-true b i) ∙ both_false owned)

    module _ (i : not b ≡ false) {u : List ℕ} (j : u ≡ text_in pool m.descriptor) {d : Bool} (l : d ≡ same u descriptor) where
      by_descriptor : wanted ≡ both owned d
      by_descriptor =
          by_name ∙ ap (λ z. both owned (both z typed)) (not-false b i)
          ∙ ap (both owned) (ap (λ x. same x descriptor) (sym j) ∙ sym l)

      pub other_descriptor : not d ≡ true → false ≡ wanted
      other_descriptor n = sym (by_descriptor ∙ ap (both owned) (not-true d n) ∙ both_false owned)

      pub by_class : not d ≡ false → {z : Bool} → z ≡ is_text (raw_of_row cs m.class) owner → z ≡ wanted
      by_class n q = q ∙ sym (by_descriptor ∙ ap (both owned) (not-false d n) ∙ both_true owned)

pub ruleset wanting = (other_kind, other_name, other_descriptor, by_class, rules)

-- What answers else is what is wanted, and what answers first is wanted too.
else_is : (t : Bool) (look : Look) (cs : List Pair) (k : Key) (e : Entry) → answers_by (else_wanted t) look cs k e ≡ wanted_by t cs k e
else_is true look cs k e = refl
else_is false look cs k e = refl

first_not : (t : Bool) (look : Look) (cs : List Pair) (k : Key) (e : Entry) → wanted_by t cs k e ≡ false → answers_by (first_wanted t) look cs k e ≡ false
first_not true look cs k e h = h
first_not false look cs k e h = go e.kind (matches cs k e) h
  where
    go : (j : MemberKind) (m : Bool) → both (is_method_kind j) m ≡ false → both (owned_by look j) m ≡ false
    go field m q = refl
    go (method o g) m q = rw q (both_false (is_text look o))

first_field : (t : Bool) (look : Look) (cs : List Pair) (k : Key) (e : Entry) → t ≡ true → wanted_by t cs k e ≡ true → answers_by (first_wanted t) look cs k e ≡ true
first_field true look cs k e q h = h
first_field false look cs k e q h = clash q refl

first_own : (t : Bool) (display : List ℕ) (cs : List Pair) (k : Key) (pool : List ℕ) (m : Member) → t ≡ false → wanted_by t cs k (member_back pool m) ≡ true →
    answers_by (first_wanted t) (known display) cs k (member_back pool m) ≡ same display (text_in pool m.owner)
first_own true display cs k pool m q h = clash refl q
first_own false display cs k pool m q h = go (eqb m.kind 0) (matches cs k (member_back pool m)) h
  where
    go : (b n : Bool) → both (is_method_kind (pick b field (method (text_in pool m.owner) m.ranges))) n ≡ true →
        both (owned_by (known display) (pick b field (method (text_in pool m.owner) m.ranges))) n ≡ same display (text_in pool m.owner)
    go true n r = clash r refl
    go false n r = rw r (both_true (same display (text_in pool m.owner)))

-- One walk.
answers_first : (a b : Option ℕ) {i : ℕ} → Some i ≡ a → Some i ≡ or_row a b
answers_first a b e = ap (λ z. or_row z b) e

answers_else : (a b : Option ℕ) {z : Option ℕ} → None ≡ a → z ≡ b → z ≡ or_row a b
answers_else a b e f = f ∙ ap (λ y. or_row y b) e

module _ (classes : List (List ℕ)) (pool : List ℕ) (rows : List (List ℕ)) (t : Bool) (display owner name descriptor : List ℕ) where
  abbrev cs : List Pair
  cs = read_back classes pool

  abbrev k : Key
  k = key owner name descriptor

  abbrev lastFirst : Option ℕ
  lastFirst = last_member (answers_by (first_wanted t) (known display) cs k) rows pool

  abbrev lastElse : Option ℕ
  lastElse = last_member (answers_by (else_wanted t) (known display) cs k) rows pool

  abbrev WalkedHere : ℕ → ℕ → Type 0
  WalkedHere any count = Walked classes pool rows t (known display) owner name descriptor any count

  module _ {index : List ℕ} (x : Chained classes pool rows index (length rows)) where
    pub walked_starts : {mark count : ℕ} → count ≡ get_or index mark 0 → {o : List ℕ} → mark ≡ member_mark o name descriptor → o ≡ owner → WalkedHere 0 count
    walked_starts {mark} e m g =
        let n : mark ≡ member_mark owner name descriptor = m ∙ ap (λ z. member_mark z name descriptor) g in
        record {
          first = behind_starts classes pool rows (first_wanted t) (known display) owner name descriptor x n e;
          none = λ z. behind_starts classes pool rows (else_wanted t) (known display) owner name descriptor x n e;
          some = λ z. absurd (omega arith);
        }

    module _ {any count : ℕ} (w : WalkedHere any count) where
      module _ (h : count ≤ 0) where
        none_first : None ≡ lastFirst
        none_first = behind_ends classes pool rows (first_wanted t) (known display) owner name descriptor x w.first h

        pub walked_none : any ≤ 0 → None ≡ wanted_row t (known display) cs k rows pool
        walked_none z =
            answers_else lastFirst lastElse none_first
            (behind_ends classes pool rows (else_wanted t) (known display) owner name descriptor x (w.none z) h)

        pub walked_some : 0 < any → Some (any - 1) ≡ wanted_row t (known display) cs k rows pool
        walked_some z = answers_else lastFirst lastElse none_first (w.some z)

      module _ (l : 0 < count) {m : Member} (e : m ≡ unpack_member (get_or rows (count - 1) [])) {b : Bool} (f : b ≡ wanted_by t cs k (member_back pool m)) where
        on_first : answers_by (first_wanted t) (known display) cs k (member_back pool m) ≡ false → {next : ℕ} → next ≡ get_or index (8192 + (count - 1)) 0 →
            Behind classes pool rows (first_wanted t) (known display) owner name descriptor next
        on_first q n = behind_more classes pool rows (first_wanted t) (known display) owner name descriptor x w.first l e (sym q) refl n

        found_first : answers_by (first_wanted t) (known display) cs k (member_back pool m) ≡ true → Some (count - 1) ≡ wanted_row t (known display) cs k rows pool
        found_first q =
            answers_first lastFirst lastElse
            (behind_found classes pool rows (first_wanted t) (known display) owner name descriptor x w.first l e (sym q) refl)

        as_else : answers_by (else_wanted t) (known display) cs k (member_back pool m) ≡ b
        as_else = else_is t (known display) cs k (member_back pool m) ∙ sym f

        pub walked_other : not b ≡ true → {next : ℕ} → next ≡ get_or index (8192 + (count - 1)) 0 → WalkedHere any next
        walked_other h n =
            record {
              first = on_first (first_not t (known display) cs k (member_back pool m) (sym f ∙ not-true b h)) n;
              none = λ z. behind_more classes pool rows (else_wanted t) (known display) owner name descriptor x (w.none z) l e (sym as_else) (not-true b h) n;
              some = w.some;
            }

        module _ (h : not b ≡ false) where
          is_wanted : wanted_by t cs k (member_back pool m) ≡ true
          is_wanted = sym f ∙ not-false b h

          pub walked_field : t ≡ true → Some (count - 1) ≡ wanted_row t (known display) cs k rows pool
          walked_field q = found_first (first_field t (known display) cs k (member_back pool m) q is_wanted)

          module _ (q : t ≡ false) {s : List ℕ} (g : s ≡ text_in pool m.owner) {c : Bool} (j : c ≡ same display s) where
            as_own : answers_by (first_wanted t) (known display) cs k (member_back pool m) ≡ c
            as_own = first_own t display cs k pool m q is_wanted ∙ ap (same display) (sym g) ∙ sym j

            pub walked_own : c ≡ true → Some (count - 1) ≡ wanted_row t (known display) cs k rows pool
            walked_own r = found_first (as_own ∙ r)

            module _ (r : c ≡ false) {next : ℕ} (n : next ≡ get_or index (8192 + (count - 1)) 0) where
              pub walked_kept : 0 < any → WalkedHere any next
              walked_kept z = record { first = on_first (as_own ∙ r) n; none = λ y. absurd (omega arith); some = w.some }

              pub walked_any : any ≤ 0 → WalkedHere count next
              walked_any z =
                  record {
                    first = on_first (as_own ∙ r) n;
                    none = λ y. absurd (omega arith);
                    some = λ y. behind_found classes pool rows (else_wanted t) (known display) owner name descriptor x (w.none z) l e (sym as_else)
                        (not-false b h);
                  }

pub ruleset walking_wanted =
    (row_inside, link_inside, link_fits, behind_falls, walked_none, walked_some, walked_other, walked_field, walked_own, walked_kept, walked_any, rules)

-- What is wanted of the class at a row, which is the last with its raw descriptor.
or_itself : (a : Option ℕ) → or_row a a ≡ a
or_itself (Some i) = refl
or_itself None = refl

module _ (classes rows : List (List ℕ)) (pool name descriptor : List ℕ) (i : ℕ) (t : Bool) where
  abbrev raw : List ℕ
  raw = text_in pool (unpack_class (get_or classes i [])).raw

  abbrev asked : Look → Option ℕ
  asked look = wanted_row t look (read_back classes pool) (key raw name descriptor) rows pool

  abbrev answer : Bool → Option ℕ
  answer b = pick b (field_row (read_back classes pool) (key raw name descriptor) rows pool) (method_row (read_back classes pool) (key raw name descriptor) rows pool)

  module _ (last : last_raw classes pool raw ≡ Some i) where
    pub class_inside : i < length classes
    class_inside = (raw_found classes pool raw last).0

    pub chained_answer : {d : List ℕ} → d ≡ text_in pool (unpack_class (get_or classes i [])).display → {z : Option ℕ} → z ≡ asked (known d) → z ≡ answer t
    chained_answer h g = g ∙ ap asked (sym ((raw_found classes pool raw last).1 ∙ ap known (sym h))) ∙ go t
      where
        go : (b : Bool) → wanted_row b (shown (read_back classes pool) raw) (read_back classes pool) (key raw name descriptor) rows pool ≡ answer b
        go true = or_itself (answer true)
        go false = refl

pub ruleset chained_wanted = (mark_in_index, mark_doubled, class_inside, walked_starts, chained_answer, rules)
