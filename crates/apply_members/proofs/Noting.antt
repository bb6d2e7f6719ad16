-- What the mapping says of a member. Assumes nothing.
use Rattle.std.specs.Prelude.{Option, Some, None}
use mathlib.Core.Path.{◌≡◌, refl, sym, ◌∙◌, ap}
use mathlib.Core.Bool.{Bool, true, false, not}
use mathlib.Core.List.{List, []}
use Prim.Native.Nat.{ℕ, suc, ◌+◌, ◌-◌, ◌≤◌, ◌<◌}
use native.Mathlib.Omega.{arith}
use lib.Dec.{eqb}
use lib.ListN.{length, get_or}
use mir.Val.{Fits}
use mir.Syntax.{w32}
use borrow.Author.Rules.{rules}
use borrow.Author.Tests.{eq-eqb, ne_eqb}
use Rattle.ground.specs.Choice.{pick}
use Rattle.ground.specs.Look.{known, unknown}
use Rattle.ground.proofs.Cases.{both_left, both_right, clash, none_either}
use Rattle.text_places.specs.Places.{same}
use Rattle.text_places.proofs.PlaceLaws.{same_equal, same_refl}
use Rattle.table_rows.specs.declared.rows.Member.{Member}
use Rattle.table_rows.specs.Classes.{Pair, shown}
use Rattle.table_rows.specs.Rows.{unpack_class, unpack_member, most_members}
use Rattle.tables.specs.Back.{text_in, read_back}
use Rattle.tables.specs.Search.{or_row, last_raw}
use Rattle.tables.proofs.Searching.{raw_found, raw_unknown}
use Rattle.name_rule.specs.Mappings.{kind_back, entry_back}
use Rattle.name_rule.specs.MemberNames.{Key, key, matches, is_method_kind, owned_by, owner_matches, method_matches}
use Rattle.name_rule.specs.MemberRows.{last_member, field_row, method_row}
use Rattle.name_rule.proofs.Rows.{field_found, method_found, none_found}
use Rattle.name_members.specs.declared.rows.Asked.TheVariants as asked
use Rattle.name_members.specs.declared.rows.Sought.TheVariants.{Own}
use Rattle.name_members.specs.Inner.Sought.{sought_by}
use Rattle.name_members.proofs.Asking.{asked_none}
use Rattle.name_index.specs.Inner.Chains.{Chained, own_row}
use Rattle.name_index.proofs.LastRows.{last_none, last_told, raw_has}
use Rattle.tree_rule.specs.Signatures.{opens}
use Rattle.tree_signature.specs.Inner.Tokens.{starts_as}
use Rattle.apply_members.specs.declared.member.MemberNote.{MemberNote}
use Rattle.apply_members.specs.Inner.Notes.{
  noted_row,
  note,
  is_home,
  is_row,
  method_note,
  owns_row,
  found_note,
  row_note,
  member_note,
}

-- The number of a row.
module _ (o : Option ℕ) {i : ℕ} (e : o ≡ Some i) where
  pub number_of : i + 1 ≡ noted_row o
  number_of = let z : i + 1 ≡ suc i = omega arith in z ∙ sym (ap noted_row e)

  module _ (h : noted_row o ≤ most_members) where
    pub row_fits : Fits w32 i
    row_fits = let z : suc i ≤ 32768 = rw e at h in omega arith

    pub number_fits : Fits w32 (i + 1)
    number_fits = let z : suc i ≤ 32768 = rw e at h in omega arith

pub no_number : (o : Option ℕ) → o ≡ None → 0 ≡ noted_row o
no_number o e = sym (ap noted_row e)

pub ruleset row_numbers = (number_of, row_fits, number_fits, no_number, rules)

-- "A method whose owner is the class given".
as_opens : (s : List ℕ) → starts_as true s ≡ opens s
as_opens s = go (opens s)
  where
    go : (b : Bool) → pick b true (not true) ≡ b
    go true = refl
    go false = refl

module _ (class owner descriptor : List ℕ) {b : Bool} (e : b ≡ starts_as true descriptor) where
  pub home_method : b ≡ true → {r : Bool} → r ≡ same owner class → r ≡ is_home class owner descriptor
  home_method h f = f ∙ sym (rw (sym (as_opens descriptor) ∙ sym e ∙ h))

  pub home_field : b ≡ false → false ≡ is_home class owner descriptor
  home_field h = sym (rw (sym (as_opens descriptor) ∙ sym e ∙ h))

pub ruleset home_asking = (home_method, home_field, rules)

-- The display owner of a row.
pub own_told : (pool r : List ℕ) {d display : List ℕ} → d ≡ display → {m : Member} → m ≡ unpack_member r →
    {b : Bool} → b ≡ sought_by Own (known d) (kind_back pool m) → b ≡ owned_by (known display) (kind_back pool (unpack_member r))
own_told pool r {d} {display} e {m} f g = g ∙ ap (λ x. owned_by (known x) (kind_back pool m)) e ∙ ap (λ x. owned_by (known display) (kind_back pool x)) f

pub ruleset own_asking = (own_told, rules)

-- A method of the class of a class row, by the row that names it.
pub found_few : (rows : List (List ℕ)) (z : Option ℕ) → noted_row z ≤ length rows → length rows ≤ most_members → noted_row z ≤ most_members
found_few rows z h g = omega arith

pub found_inside : (rows : List (List ℕ)) (z : Option ℕ) {i : ℕ} → noted_row z ≤ length rows → z ≡ Some i → i < length rows
found_inside rows z {i} h e = let y : suc i ≤ length rows = rw e at h in omega arith

away : (c : Bool) (x : ℕ) → not c ≡ true → 0 ≡ pick c x 0
away true x q = clash q refl
away false x q = refl

here : (c : Bool) (x : ℕ) → not c ≡ false → x ≡ pick c x 0
here true x q = refl
here false x q = clash refl q

module _ (classes rows : List (List ℕ)) (pool : List ℕ) (class : ℕ) (z : Option ℕ) {n : ℕ} (f : n ≡ noted_row z) (home : Bool) where
  pub found_none : z ≡ None → note n (not home) 0 ≡ found_note classes rows pool class z home
  found_none h = ap (λ m. note m (not home) 0) (f ∙ ap noted_row h) ∙ sym (ap (λ x. found_note classes rows pool class x home) h)

  module _ {i : ℕ} (h : z ≡ Some i) where
    abbrev lines : Bool → ℕ → ℕ
    lines b m = pick home (pick b m 0) 0

    noted : {j : Bool} {l : ℕ} → j ≡ not home → l ≡ lines (owns_row classes rows pool class i) n →
        note n j l ≡ found_note classes rows pool class z home
    noted {j} {l} p q =
        ap (λ x. note n x l) p ∙ ap (note n (not home)) q
        ∙ ap (λ m. note m (not home) (lines (owns_row classes rows pool class i) m)) (f ∙ ap noted_row h)
        ∙ sym (ap (λ x. found_note classes rows pool class x home) h)

    pub found_away : not home ≡ true → note n true 0 ≡ found_note classes rows pool class z home
    found_away t = noted (sym t) (away home (pick (owns_row classes rows pool class i) n 0) t)

    module _ {b : Bool} (g : b ≡ owns_row classes rows pool class i) (t : not home ≡ false) where
      pub found_own : b ≡ true → note n false n ≡ found_note classes rows pool class z home
      found_own u = noted (sym t) (here home n t ∙ ap (λ y. lines y n) (sym u ∙ g))

      pub found_other : b ≡ false → note n false 0 ≡ found_note classes rows pool class z home
      found_other u = noted (sym t) (here home 0 t ∙ ap (λ y. lines y n) (sym u ∙ g))

pub ruleset method_noting = (found_few, found_inside, found_none, found_away, found_own, found_other, rules)

-- The row that names a field or a method.
module _ (classes rows : List (List ℕ)) (pool : List ℕ) where
  abbrev cs : List Pair
  cs = read_back classes pool

  pub answer_inside : (k : Key) (b : Bool) {z : Option ℕ} → z ≡ pick b (field_row cs k rows pool) (method_row cs k rows pool) →
      noted_row z ≤ length rows
  answer_inside k b {z} e = go b z e
    where
      few : (x : Option ℕ) → ((i : ℕ) → x ≡ Some i → i < length rows) → noted_row x ≤ length rows
      few (Some i) found = let h = found i refl in omega arith
      few None found = omega arith

      go : (c : Bool) (x : Option ℕ) → x ≡ pick c (field_row cs k rows pool) (method_row cs k rows pool) → noted_row x ≤ length rows
      go true x q = few x (λ i f. (field_found cs k rows pool (sym q ∙ f)).0)
      go false x q = few x (λ i f. (method_found cs k rows pool (sym q ∙ f)).0)

  pub rows_few : {chains : List ℕ} → Chained classes pool rows chains (length rows) → length rows ≤ most_members
  rows_few x = x.few

  module _ (k : Key) {z : Option ℕ} (e : z ≡ method_row cs k rows pool) where
    first_none : (a b : Option ℕ) → or_row a b ≡ None → a ≡ None
    first_none (Some i) b h = absurd (let y : ◌≡◌ {A = ℕ} 0 1 = cc in omega arith)
    first_none None b h = refl

    module _ (class i : ℕ) (h : z ≡ Some i) (look : shown cs k.owner ≡ known (text_in pool (unpack_class (get_or classes class [])).display))
        {b : Bool} (g : b ≡ owns_row classes rows pool class i) where
      at_row : owned_by (shown cs k.owner) (kind_back pool (unpack_member (get_or rows i []))) ≡ b
      at_row = ap (λ l. owned_by l (kind_back pool (unpack_member (get_or rows i [])))) look ∙ sym g

      method_inside : i < length rows
      method_inside = (method_found cs k rows pool (sym e ∙ h)).0

      -- the row that names a method is the last one owned, if it is owned itself
      own_yes : b ≡ true → own_row classes rows pool k ≡ Some i
      own_yes t = go (own_row classes rows pool k) (last_member (method_matches cs k) rows pool) refl refl (sym e ∙ h)
        where
          go : (a c : Option ℕ) → own_row classes rows pool k ≡ a → last_member (method_matches cs k) rows pool ≡ c → or_row a c ≡ Some i →
              own_row classes rows pool k ≡ Some i
          go (Some j) c p q r = p ∙ r
          go None c p q r =
              let told = last_told (λ row. method_matches cs k (entry_back pool row)) 0 rows (q ∙ r) in
              let y : i - 0 ≡ i = omega arith in
              let m : method_matches cs k (entry_back pool (get_or rows i [])) ≡ true = rw y at told.holds in
              let matched : matches cs k (entry_back pool (get_or rows i [])) ≡ true =
              both_right (is_method_kind (entry_back pool (get_or rows i [])).kind) (matches cs k (entry_back pool (get_or rows i []))) m in
              let yes : owner_matches cs k (entry_back pool (get_or rows i [])) ≡ true = rw (at_row ∙ t, matched) in
              clash yes (last_none (λ row. owner_matches cs k (entry_back pool row)) 0 rows p i (let l = method_inside in l))

      own_no : b ≡ false → own_row classes rows pool k ≡ None
      own_no t = go (own_row classes rows pool k) (last_member (method_matches cs k) rows pool) refl (sym e ∙ h)
        where
          go : (a c : Option ℕ) → own_row classes rows pool k ≡ a → or_row a c ≡ Some i → a ≡ None
          go (Some j) c p r =
              let told = last_told (λ row. owner_matches cs k (entry_back pool row)) 0 rows (p ∙ r) in
              let y : i - 0 ≡ i = omega arith in
              let m : owner_matches cs k (entry_back pool (get_or rows i [])) ≡ true = rw y at told.holds in
              clash (both_left (owned_by (shown cs k.owner) (entry_back pool (get_or rows i [])).kind) (matches cs k (entry_back pool (get_or rows i []))) m)
              (at_row ∙ t)
          go None c p r = refl

      own_number : noted_row (own_row classes rows pool k) ≡ pick b (suc i) 0
      own_number = go b refl
        where
          go : (c : Bool) → b ≡ c → noted_row (own_row classes rows pool k) ≡ pick c (suc i) 0
          go true u = ap noted_row (own_yes u)
          go false u = ap noted_row (own_no u)

    found_is : (class : ℕ) (home : Bool) → shown cs k.owner ≡ known (text_in pool (unpack_class (get_or classes class [])).display) →
        found_note classes rows pool class z home ≡ method_note classes rows pool k home
    found_is class home look = go z refl
      where
        go : (x : Option ℕ) → z ≡ x → found_note classes rows pool class x home ≡ method_note classes rows pool k home
        go (Some i) h =
            sym (ap (λ y. note (noted_row y) (not home) (pick home (noted_row (own_row classes rows pool k)) 0)) (sym e ∙ h)
            ∙ ap (λ l. note (suc i) (not home) (pick home l 0)) (own_number class i h look refl))
        go None h =
            let own : own_row classes rows pool k ≡ None =
            first_none (own_row classes rows pool k) (last_member (method_matches cs k) rows pool) (sym e ∙ h) in
            sym (ap (λ y. note (noted_row y) (not home) (pick home (noted_row (own_row classes rows pool k)) 0)) (sym e ∙ h)
            ∙ ap (λ y. note 0 (not home) (pick home (noted_row y) 0)) own ∙ ap (note 0 (not home)) (none_either home))

-- A class row that is found, and another.
module _ (o : Option ℕ) (row : ℕ) where
  pub one_row : {i : ℕ} → o ≡ Some i → eqb i row ≡ is_row o row
  one_row e = sym (ap (λ x. is_row x row) e)

  pub no_row : o ≡ None → false ≡ is_row o row
  no_row e = sym (ap (λ x. is_row x row) e)

pub ruleset row_asking = (one_row, no_row, rules)

-- classes have the same row where they have the same raw descriptor
same_rows : (classes : List (List ℕ)) (pool class owner : List ℕ) {i : ℕ} → last_raw classes pool owner ≡ Some i →
    is_row (last_raw classes pool class) i ≡ same owner class
same_rows classes pool class owner {i} e = go (last_raw classes pool class) (same owner class) refl refl
  where
    alike : same owner class ≡ true → last_raw classes pool class ≡ Some i
    alike h = ap (last_raw classes pool) (sym (same_equal owner class h)) ∙ e

    go : (x : Option ℕ) (b : Bool) → last_raw classes pool class ≡ x → same owner class ≡ b → is_row x i ≡ b
    go (Some j) true f h = let z : Some j ≡ Some i = sym f ∙ alike h in eq-eqb j i cc
    go (Some j) false f h = ne_eqb j i (λ z. clash (rw (equal z) (same_refl class)) h)
      where
        equal : j ≡ i → owner ≡ class
        equal z = sym (raw_has classes pool owner e) ∙ raw_has classes pool class (f ∙ ap Some z)
    go None true f h = absurd (let z : None ≡ Some i = sym f ∙ alike h in let y : ◌≡◌ {A = ℕ} 0 1 = cc in omega arith)
    go None false f h = refl

-- A member of the class of a class row.
module _ (classes rows : List (List ℕ)) (pool : List ℕ) (i : ℕ) (name descriptor : List ℕ)
    (l : last_raw classes pool (text_in pool (unpack_class (get_or classes i [])).raw) ≡ Some i) where
  pub class_there : i < length classes
  class_there = (raw_found classes pool (text_in pool (unpack_class (get_or classes i [])).raw) l).0

  abbrev k : Key
  k = key (text_in pool (unpack_class (get_or classes i [])).raw) name descriptor

  abbrev either : Bool → Option ℕ
  either b = pick b (field_row (read_back classes pool) k rows pool) (method_row (read_back classes pool) k rows pool)

  module _ {b : Bool} (q : b ≡ starts_as true descriptor) {z : Option ℕ} (a : z ≡ either (not b)) where
    test : opens descriptor ≡ b
    test = sym (as_opens descriptor) ∙ sym q

    answer : {c : Bool} → b ≡ c → z ≡ either (not c)
    answer t = a ∙ ap (λ y. either (not y)) t

    look : shown (read_back classes pool) k.owner ≡ known (text_in pool (unpack_class (get_or classes i [])).display)
    look = (raw_found classes pool (text_in pool (unpack_class (get_or classes i [])).raw) l).1

    pub as_method : b ≡ true → (x : Option ℕ) {h : Bool} → h ≡ is_row x i → {r : MemberNote} →
        r ≡ found_note classes rows pool i z h → r ≡ row_note classes rows pool k (is_row x i)
    as_method t x {h} w s =
        s ∙ found_is classes rows pool k (answer t) i h look ∙ ap (method_note classes rows pool k) w ∙ sym (rw (test ∙ t))

    pub as_field : b ≡ false → (h : Bool) {n : ℕ} → n ≡ noted_row z → note n true 0 ≡ row_note classes rows pool k h
    as_field t h g = ap (λ y. note y true 0) (g ∙ ap noted_row (answer t)) ∙ sym (rw (test ∙ t))

pub ruleset member_noting = (class_there, answer_inside, rows_few, found_few, as_method, as_field, rules)

-- A member, by its class.
module _ (classes rows : List (List ℕ)) (pool class owner name descriptor : List ℕ) where
  pub owner_unknown : last_raw classes pool owner ≡ None → {h : Bool} → h ≡ is_home class owner descriptor →
      note 0 (not h) 0 ≡ member_note classes rows pool class (key owner name descriptor)
  owner_unknown e g = ap (λ x. note 0 (not x) 0) g ∙ go (opens descriptor) refl
    where
      u : shown (read_back classes pool) owner ≡ unknown
      u = raw_unknown classes pool owner e

      own : own_row classes rows pool (key owner name descriptor) ≡ None
      own = none_found (read_back classes pool) (key owner name descriptor) (λ x. owned_by (shown (read_back classes pool) owner) x.kind) rows pool u

      method : method_row (read_back classes pool) (key owner name descriptor) rows pool ≡ None
      method = sym (asked_none classes rows pool owner name descriptor (sym e) asked.Method refl)

      field : field_row (read_back classes pool) (key owner name descriptor) rows pool ≡ None
      field = sym (asked_none classes rows pool owner name descriptor (sym e) asked.Field refl)

      go : (b : Bool) → opens descriptor ≡ b →
          note 0 (not (is_home class owner descriptor)) 0 ≡ member_note classes rows pool class (key owner name descriptor)
      go true t = sym (rw (t, method, own) (ap (note 0 (not (same owner class))) (none_either (same owner class))))
      go false t = sym (rw (t, field))

  pub owner_noted : {i : ℕ} → last_raw classes pool owner ≡ Some i →
      row_note classes rows pool (key (text_in pool (unpack_class (get_or classes i [])).raw) name descriptor) (is_row (last_raw classes pool class) i)
      ≡ member_note classes rows pool class (key owner name descriptor)
  owner_noted {i} e =
      ap (λ y. row_note classes rows pool (key y name descriptor) (is_row (last_raw classes pool class) i)) (raw_has classes pool owner e)
      ∙ ap (row_note classes rows pool (key owner name descriptor)) (same_rows classes pool class owner e) ∙ go (opens descriptor) refl
    where
      go : (b : Bool) → opens descriptor ≡ b →
          row_note classes rows pool (key owner name descriptor) (same owner class) ≡ member_note classes rows pool class (key owner name descriptor)
      go true t = rw t
      go false t = rw t
