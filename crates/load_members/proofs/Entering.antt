-- The member of a line: its texts, its row, and what a line is to the members. Assumes nothing.
use mathlib.Core.Path.{◌≡◌, refl, sym, ◌∙◌, ap}
use mathlib.Core.Bool.{Bool, true, false}
use mathlib.Core.List.{List, [], ◌∷◌, ◌++◌, append-nil}
use Prim.Native.Nat.{ℕ, ◌+◌, ◌-◌, ◌≤◌}
use native.Mathlib.Nat.{add-zero}
use native.Mathlib.Omega.{arith}
use lib.Dec.{eqb}
use lib.ListN.{length}
use borrow.Author.Tests.{eqb-false}
use Rattle.ground.specs.Choice.{pick}
use Rattle.text_places.specs.declared.spans.Span.{Span}
use Rattle.text_white.specs.Trim.{trim_both}
use Rattle.line_parts.specs.declared.signature.Qualified.{Qualified}
use Rattle.line_parts.specs.declared.signature.Qualified.TheVariants.{Owned, Plain}
use Rattle.line_parts.specs.declared.method.Method as method
use Rattle.line.specs.declared.line.Line.{Line}
use Rattle.line.specs.declared.line.Line.TheVariants as kinds
use Rattle.text_places.specs.Spans.{part_of, Lies}
use Rattle.line_parts.specs.Signatures.{NameIn, name_span}
use Rattle.line_parts.specs.Arguments.{arguments_of}
use Rattle.line.specs.Kinds.{line_of}
use Rattle.line_parts.proofs.Lying.{trim_lies, lies_more, name_more}
use Rattle.line.proofs.Whole.{LineIn, line_lies}
use Rattle.ground.specs.Look.{Look, known, unknown}
use Rattle.table_rows.specs.Classes.{Pair}
use Rattle.table_rows.specs.declared.rows.Member as rows
use Rattle.table_rows.specs.Rows.{pack_member}
use Rattle.load_rule.specs.Fates.{member_after, ownerless, fault_of, class_line}
use Rattle.load_rule.specs.Members.{MemberKind, field, method, Entry, ranges_of, Under, under, under_after, field_descriptor, method_descriptor, name_text, entry_in, entry_text, entry_row}
use Rattle.load_texts.specs.declared.texts.Body.{Body}
use Rattle.load_texts.specs.declared.texts.Body.TheVariants.{Field, Method}
use Rattle.load_texts.specs.declared.texts.MemberLine.{MemberLine}
use Rattle.load_texts.specs.declared.texts.Places.{Places}
use Rattle.load_members.specs.declared.role.Role.TheVariants.{Class, Member, Neither}
use Rattle.load_texts.specs.Inner.Texts.{BodyIn, MemberIn, descriptor_text, owner_text, MemberTexts, texts_of, all_texts}
use Rattle.load_scan.specs.Inner.Steps.{is_entered}
use Rattle.load_members.specs.Inner.Roles.{role_of}
use Rattle.load_texts.specs.Inner.Places.{Placed, member_placed}

-- the member with these texts
abbrev pub kind_with : List ℕ → Body → MemberKind
kind_with owner (Field declared) = field
kind_with owner (Method m) = method owner (ranges_of m.raw m.display)

abbrev pub entry_of : ℕ → MemberTexts → Body → Entry
entry_of c t b = record { class = c; raw_name = t.raw; descriptor = t.descriptor; name = t.name; kind = kind_with t.owner b }

named_same : (l : List ℕ) (q : Qualified) → name_text l q ≡ part_of l (name_span q)
named_same l (Owned owner name) = refl
named_same l (Plain name) = refl

field_same : (cs : List Pair) (signature : Look) (l : List ℕ) (declared : Span) → field_descriptor cs signature (part_of l declared) ≡ descriptor_text cs signature l (Field declared)
field_same cs (known s) l declared = refl
field_same cs unknown l declared = refl

method_same : (cs : List Pair) (signature : Look) (l : List ℕ) (m : method.Method) →
    method_descriptor cs signature (arguments_of (part_of l m.arguments)) (part_of l m.returned) ≡ descriptor_text cs signature l (Method m)
method_same cs (known s) l m = refl
method_same cs unknown l m = refl

-- Lines by their role.
module _ (cs : List Pair) (u : Under) (signature : Look) (l : List ℕ) where
  abbrev fieldWith : List ℕ → List ℕ → List ℕ → Entry
  fieldWith r d n = record { class = u.count - 1; raw_name = r; descriptor = d; name = n; kind = field }

  abbrev methodWith : method.Method → List ℕ → List ℕ → List ℕ → Entry
  methodWith m r d n =
      record { class = u.count - 1; raw_name = r; descriptor = d; name = n; kind = method (owner_text u.own l (Method m)) (ranges_of m.raw m.display) }

  pub entry_member : (k : Line) {p : MemberLine} → role_of k ≡ Member p → entry_in cs u signature l k ≡ entry_of (u.count - 1) (texts_of cs signature u.own l p) p.body ∷ []
  entry_member kinds.Blank e = absurd (let z : ◌≡◌ {A = ℕ} 0 1 = cc in omega arith)
  entry_member (kinds.Comment b) e = absurd (let z : ◌≡◌ {A = ℕ} 0 1 = cc in omega arith)
  entry_member (kinds.Class d r) e = absurd (let z : ◌≡◌ {A = ℕ} 0 1 = cc in omega arith)
  entry_member (kinds.Field d n r) {p} e =
      let is : record { raw = r; name = n; body = Field d } ≡ p = cc in
      ap (λ x. fieldWith (part_of l r) x (part_of l n) ∷ []) (field_same cs signature l d)
      ∙ ap (λ x. entry_of (u.count - 1) (texts_of cs signature u.own l x) x.body ∷ []) is
  entry_member (kinds.Method m r) {p} e =
      let is : record { raw = r; name = name_span m.named; body = Method m } ≡ p = cc in
      ap (λ x. methodWith m (part_of l r) x (name_text l m.named) ∷ []) (method_same cs signature l m)
      ∙ ap (λ x. methodWith m (part_of l r) (descriptor_text cs signature l (Method m)) x ∷ []) (named_same l m.named)
      ∙ ap (λ x. entry_of (u.count - 1) (texts_of cs signature u.own l x) x.body ∷ []) is
  entry_member (kinds.Refused n) e = absurd (let z : ◌≡◌ {A = ℕ} 0 1 = cc in omega arith)

  pub entry_class : (k : Line) {d : Span} → role_of k ≡ Class d → entry_in cs u signature l k ≡ []
  entry_class kinds.Blank e = refl
  entry_class (kinds.Comment b) e = refl
  entry_class (kinds.Class d r) e = refl
  entry_class (kinds.Field d n r) e = absurd (let z : ◌≡◌ {A = ℕ} 0 1 = cc in omega arith)
  entry_class (kinds.Method m r) e = absurd (let z : ◌≡◌ {A = ℕ} 0 1 = cc in omega arith)
  entry_class (kinds.Refused n) e = refl

  pub entry_neither : (k : Line) → role_of k ≡ Neither → entry_in cs u signature l k ≡ []
  entry_neither kinds.Blank e = refl
  entry_neither (kinds.Comment b) e = refl
  entry_neither (kinds.Class d r) e = refl
  entry_neither (kinds.Field d n r) e = absurd (let z : ◌≡◌ {A = ℕ} 0 1 = cc in omega arith)
  entry_neither (kinds.Method m r) e = absurd (let z : ◌≡◌ {A = ℕ} 0 1 = cc in omega arith)
  entry_neither (kinds.Refused n) e = refl

module _ (u : Under) (l : List ℕ) where
  pub under_class_lem : (k : Line) {d : Span} → role_of k ≡ Class d → under_after u l k ≡ under (u.count + class_line k) (part_of l d)
  under_class_lem kinds.Blank e = absurd (let z : ◌≡◌ {A = ℕ} 0 1 = cc in omega arith)
  under_class_lem (kinds.Comment b) e = absurd (let z : ◌≡◌ {A = ℕ} 0 1 = cc in omega arith)
  under_class_lem (kinds.Class a r) {d} e = let is : a ≡ d = cc in ap (λ x. under (u.count + 1) (part_of l x)) is
  under_class_lem (kinds.Field d n r) e = absurd (let z : ◌≡◌ {A = ℕ} 0 1 = cc in omega arith)
  under_class_lem (kinds.Method m r) e = absurd (let z : ◌≡◌ {A = ℕ} 0 1 = cc in omega arith)
  under_class_lem (kinds.Refused n) e = absurd (let z : ◌≡◌ {A = ℕ} 0 1 = cc in omega arith)

  pub under_neither : (k : Line) → role_of k ≡ Neither → under_after u l k ≡ under (u.count + class_line k) u.own
  under_neither kinds.Blank e = ap (λ n. under n u.own) (sym (add-zero u.count))
  under_neither (kinds.Comment b) e = ap (λ n. under n u.own) (sym (add-zero u.count))
  under_neither (kinds.Class d r) e = absurd (let z : ◌≡◌ {A = ℕ} 0 1 = cc in omega arith)
  under_neither (kinds.Field d n r) e = absurd (let z : ◌≡◌ {A = ℕ} 0 1 = cc in omega arith)
  under_neither (kinds.Method m r) e = absurd (let z : ◌≡◌ {A = ℕ} 0 1 = cc in omega arith)
  under_neither (kinds.Refused n) e = ap (λ n. under n u.own) (sym (add-zero u.count))

  pub under_member : (k : Line) {p : MemberLine} → role_of k ≡ Member p → under_after u l k ≡ under (u.count + class_line k) u.own
  under_member kinds.Blank e = ap (λ n. under n u.own) (sym (add-zero u.count))
  under_member (kinds.Comment b) e = ap (λ n. under n u.own) (sym (add-zero u.count))
  under_member (kinds.Class d r) e = absurd (let z : ◌≡◌ {A = ℕ} 0 1 = cc in omega arith)
  under_member (kinds.Field d n r) e = ap (λ n. under n u.own) (sym (add-zero u.count))
  under_member (kinds.Method m r) e = ap (λ n. under n u.own) (sym (add-zero u.count))
  under_member (kinds.Refused n) e = ap (λ n. under n u.own) (sym (add-zero u.count))

-- What is passed over is neither a class line nor a member line.
pub not_entered : (k : Line) → is_entered k ≡ false → role_of k ≡ Neither
not_entered kinds.Blank e = refl
not_entered (kinds.Comment b) e = refl
not_entered (kinds.Class d r) e = absurd (let z : ◌≡◌ {A = ℕ} 0 1 = cc in omega arith)
not_entered (kinds.Field d n r) e = absurd (let z : ◌≡◌ {A = ℕ} 0 1 = cc in omega arith)
not_entered (kinds.Method m r) e = absurd (let z : ◌≡◌ {A = ℕ} 0 1 = cc in omega arith)
not_entered (kinds.Refused n) e = refl

-- A class line is one, and no other line is.
pub class_counts : (k : Line) {d : Span} → role_of k ≡ Class d → class_line k ≡ 1
class_counts kinds.Blank e = absurd (let z : ◌≡◌ {A = ℕ} 0 1 = cc in omega arith)
class_counts (kinds.Comment b) e = absurd (let z : ◌≡◌ {A = ℕ} 0 1 = cc in omega arith)
class_counts (kinds.Class d r) e = refl
class_counts (kinds.Field d n r) e = absurd (let z : ◌≡◌ {A = ℕ} 0 1 = cc in omega arith)
class_counts (kinds.Method m r) e = absurd (let z : ◌≡◌ {A = ℕ} 0 1 = cc in omega arith)
class_counts (kinds.Refused n) e = absurd (let z : ◌≡◌ {A = ℕ} 0 1 = cc in omega arith)

pub neither_counts : (k : Line) → role_of k ≡ Neither → class_line k ≡ 0
neither_counts kinds.Blank e = refl
neither_counts (kinds.Comment b) e = refl
neither_counts (kinds.Class d r) e = absurd (let z : ◌≡◌ {A = ℕ} 0 1 = cc in omega arith)
neither_counts (kinds.Field d n r) e = refl
neither_counts (kinds.Method m r) e = refl
neither_counts (kinds.Refused n) e = refl

pub member_counts : (k : Line) {p : MemberLine} → role_of k ≡ Member p → class_line k ≡ 0
member_counts kinds.Blank e = refl
member_counts (kinds.Comment b) e = refl
member_counts (kinds.Class d r) e = absurd (let z : ◌≡◌ {A = ℕ} 0 1 = cc in omega arith)
member_counts (kinds.Field d n r) e = refl
member_counts (kinds.Method m r) e = refl
member_counts (kinds.Refused n) e = refl

-- A member line without a fault stands under a class line.
some_class : (c : ℕ) → ownerless c 0 ≡ 0 → 1 ≤ c
some_class c e = go (eqb c 0) refl e
  where
    go : (b : Bool) → eqb c 0 ≡ b → ◌≡◌ {A = ℕ} (pick b 4 0) 0 → 1 ≤ c
    go true f g = absurd (let z : ◌≡◌ {A = ℕ} 4 0 = g in omega arith)
    go false f g = let n = eqb-false c 0 f in omega arith

pub member_classed : (c : ℕ) (k : Line) {p : MemberLine} → role_of k ≡ Member p → fault_of c k ≡ 0 → 1 ≤ c
member_classed c kinds.Blank e f = absurd (let z : ◌≡◌ {A = ℕ} 0 1 = cc in omega arith)
member_classed c (kinds.Comment b) e f = absurd (let z : ◌≡◌ {A = ℕ} 0 1 = cc in omega arith)
member_classed c (kinds.Class d r) e f = absurd (let z : ◌≡◌ {A = ℕ} 0 1 = cc in omega arith)
member_classed c (kinds.Field d n r) e f = some_class c f
member_classed c (kinds.Method m r) e f = some_class c f
member_classed c (kinds.Refused n) e f = absurd (let z : ◌≡◌ {A = ℕ} 0 1 = cc in omega arith)

-- After a member line the class has a last member.
pub member_last : (member : Bool) (k : Line) {p : MemberLine} → role_of k ≡ Member p → member_after member k ≡ true
member_last member kinds.Blank e = absurd (let z : ◌≡◌ {A = ℕ} 0 1 = cc in omega arith)
member_last member (kinds.Comment b) e = absurd (let z : ◌≡◌ {A = ℕ} 0 1 = cc in omega arith)
member_last member (kinds.Class d r) e = absurd (let z : ◌≡◌ {A = ℕ} 0 1 = cc in omega arith)
member_last member (kinds.Field d n r) e = refl
member_last member (kinds.Method m r) e = refl
member_last member (kinds.Refused n) e = absurd (let z : ◌≡◌ {A = ℕ} 0 1 = cc in omega arith)

-- Its parts lie in it.
named_lies : (q : Qualified) (n : ℕ) → NameIn q n → Lies (name_span q) n
named_lies (Owned owner name) n i = i.1
named_lies (Plain name) n i = i

member_in : (k : Line) (n : ℕ) {p : MemberLine} → LineIn k n → role_of k ≡ Member p → MemberIn p n
member_in kinds.Blank n i e = absurd (let z : ◌≡◌ {A = ℕ} 0 1 = cc in omega arith)
member_in (kinds.Comment b) n i e = absurd (let z : ◌≡◌ {A = ℕ} 0 1 = cc in omega arith)
member_in (kinds.Class d r) n i e = absurd (let z : ◌≡◌ {A = ℕ} 0 1 = cc in omega arith)
member_in (kinds.Field d a r) n {p} i e =
    let is : record { raw = r; name = a; body = Field d } ≡ p = cc in
    rw (← is) (record { raw = i.2; name = i.1; body = i.0 })
member_in (kinds.Method m r) n {p} i e =
    let is : record { raw = r; name = name_span m.named; body = Method m } ≡ p = cc in
    rw (← is) (record { raw = i.1; name = named_lies m.named n i.0.1; body = i.0 })
member_in (kinds.Refused k) n i e = absurd (let z : ◌≡◌ {A = ℕ} 0 1 = cc in omega arith)

body_more : (b : Body) {m n : ℕ} → m ≤ n → BodyIn b m → BodyIn b n
body_more (Field d) h i = lies_more h i
body_more (Method m) h i = (lies_more h i.0, name_more m.named h i.1, lies_more h i.2)

pub member_lies : (l : List ℕ) {p : MemberLine} → role_of (line_of l) ≡ Member p → MemberIn p (length l)
member_lies l {p} e =
    let i = member_in (line_of l) (trim_both l).«end» (line_lies l) e in
    let h = (trim_lies l).within in
    record { raw = lies_more h i.raw; name = lies_more h i.name; body = body_more p.body h i.body }

class_in_lem : (k : Line) (n : ℕ) {d : Span} → LineIn k n → role_of k ≡ Class d → Lies d n
class_in_lem kinds.Blank n i e = absurd (let z : ◌≡◌ {A = ℕ} 0 1 = cc in omega arith)
class_in_lem (kinds.Comment b) n i e = absurd (let z : ◌≡◌ {A = ℕ} 0 1 = cc in omega arith)
class_in_lem (kinds.Class a r) n {d} i e = let is : a ≡ d = cc in rw (← is) i.0
class_in_lem (kinds.Field d a r) n i e = absurd (let z : ◌≡◌ {A = ℕ} 0 1 = cc in omega arith)
class_in_lem (kinds.Method m r) n i e = absurd (let z : ◌≡◌ {A = ℕ} 0 1 = cc in omega arith)
class_in_lem (kinds.Refused k) n i e = absurd (let z : ◌≡◌ {A = ℕ} 0 1 = cc in omega arith)

pub class_lies : (l : List ℕ) {d : Span} → role_of (line_of l) ≡ Class d → Lies d (length l)
class_lies l e = lies_more (trim_lies l).within (class_in_lem (line_of l) (trim_both l).«end» (line_lies l) e)

-- Its texts and its row.
pub entry_text_lem : (c : ℕ) (cs : List Pair) (signature : Look) (own l : List ℕ) (p : MemberLine) →
    entry_text (entry_of c (texts_of cs signature own l p) p.body) ≡ all_texts (texts_of cs signature own l p)
entry_text_lem c cs signature own l p = go p.body (descriptor_text cs signature l p.body)
  where
    go : (b : Body) (d : List ℕ) →
        entry_text (entry_of c (record { raw = part_of l p.raw; descriptor = d; name = part_of l p.name; owner = owner_text own l b }) b)
        ≡ part_of l p.raw ++ (d ++ (part_of l p.name ++ owner_text own l b))
    go (Field x) d = ap (λ n. part_of l p.raw ++ (d ++ n)) (sym (append-nil (part_of l p.name)))
    go (Method m) d = refl

pub entry_row_lem : (c at : ℕ) (q : Places) (t : MemberTexts) (b : Body) → Placed q at t → pack_member (member_placed c at q b) ≡ entry_row at (entry_of c t b)
entry_row_lem c at q t b k =
    let d : q.descriptor ≡ at + length t.raw = k.descriptor in
    let n : q.name ≡ at + length t.raw + length t.descriptor = k.name ∙ ap (λ x. x + length t.descriptor) d in
    let o : q.owner ≡ at + length t.raw + length t.descriptor + length t.name = k.owner ∙ ap (λ x. x + length t.name) n in
    let e : q.«end» ≡ q.owner + length t.owner = k.«end» in
    let r₁ : q.descriptor - at ≡ length t.raw = omega arith in
    let r₂ : q.name - q.descriptor ≡ length t.descriptor = let z = k.name in omega arith in
    let r₃ : q.owner - q.name ≡ length t.name = let z = k.owner in omega arith in
    let r₄ : q.«end» - q.owner ≡ length t.owner = omega arith in
    go b d n o r₁ r₂ r₃ r₄
  where
    go : (b : Body) → q.descriptor ≡ at + length t.raw → q.name ≡ at + length t.raw + length t.descriptor →
        q.owner ≡ at + length t.raw + length t.descriptor + length t.name → q.descriptor - at ≡ length t.raw → q.name - q.descriptor ≡ length t.descriptor →
        q.owner - q.name ≡ length t.name → q.«end» - q.owner ≡ length t.owner → pack_member (member_placed c at q b) ≡ entry_row at (entry_of c t b)
    go (Field x) d n o r₁ r₂ r₃ r₄ = rw (r₁, r₂, r₃, n, d)
    go (Method m) d n o r₁ r₂ r₃ r₄ = rw (r₁, r₂, r₃, r₄, o, n, d)
