-- The row of a member. Assumes nothing.
use Rattle.std.specs.Prelude.{Option, Some, None}
use mathlib.Core.Path.{◌≡◌, sym, ◌∙◌, ap}
use mathlib.Core.List.{List}
use Prim.Native.Nat.{ℕ, ◌-◌, ◌≤◌}
use native.Mathlib.Omega.{arith}
use lib.ListN.{length}
use borrow.Author.Rules.{rules}
use Rattle.text_places.specs.declared.spans.Span.{Span}
use Rattle.line_parts.specs.declared.method.Method as method
use Rattle.line.specs.declared.line.Refusal.{Refusal}
use Rattle.line.specs.declared.line.Line.{Line}
use Rattle.line.specs.declared.line.Line.TheVariants as kinds
use Rattle.table_rows.specs.declared.rows.Text.{Text}
use Rattle.table_rows.specs.declared.rows.Ranges.{Ranges}
use Rattle.table_rows.specs.declared.rows.Ranges.TheVariants as ranges
use Rattle.table_rows.specs.declared.rows.Member as rows
use Rattle.table_rows.specs.Rows.{text, pack_member, most_pool}
use Rattle.load_rule.specs.Members.{ranges_of}
use Rattle.load_texts.specs.declared.texts.Body.{Body}
use Rattle.load_texts.specs.declared.texts.Body.TheVariants.{Field, Method}
use Rattle.load_texts.specs.declared.texts.Places.{Places}
use Rattle.load_members.specs.declared.role.Role.TheVariants.{Class, Member, Neither}
use Rattle.line_parts.specs.Signatures.{name_span}
use Rattle.load_members.specs.Inner.Roles.{role_of}
use Rattle.load_texts.specs.Inner.Places.{Rising, member_placed}
use Rattle.line_parts.specs.declared.method.LineRange.{LineRange}
use Rattle.line_parts.specs.Methods.{from_to}

-- Ranges.
module _ {raw display : Option LineRange} where
  pub ranges_none : raw ≡ None → display ≡ None → ranges.None ≡ ranges_of raw display
  ranges_none e f = sym (ap (λ x. ranges_of x display) e ∙ ap (ranges_of None) f)

  pub ranges_display : {y : LineRange} → raw ≡ None → display ≡ Some y → ranges.Display y.start y.«end» ≡ ranges_of raw display
  ranges_display e f = sym (ap (λ x. ranges_of x display) e ∙ ap (ranges_of None) f)

  module _ {y : LineRange} (e : raw ≡ Some y) where
    pub ranges_raw : display ≡ None → ranges.Both y.start y.«end» y.start y.«end» ≡ ranges_of raw display
    ranges_raw f = sym (ap (λ x. ranges_of x display) e ∙ ap (ranges_of (Some (from_to y.start y.«end»))) f)

    pub ranges_both : {w : LineRange} → display ≡ Some w → ranges.Both y.start y.«end» w.start w.«end» ≡ ranges_of raw display
    ranges_both f = sym (ap (λ x. ranges_of x display) e ∙ ap (ranges_of (Some (from_to y.start y.«end»))) f)

pub ruleset ranging = (ranges_none, ranges_display, ranges_raw, ranges_both, rules)

-- What a line is to the rows.
module _ {k : Line} where
  pub role_class : {d r : Span} → k ≡ kinds.Class d r → Class d ≡ role_of k
  role_class e = sym (ap role_of e)

  pub role_field : {d n r : Span} → k ≡ kinds.Field d n r → Member (record { raw = r; name = n; body = Field d }) ≡ role_of k
  role_field e = sym (ap role_of e)

  pub role_method : {m : method.Method} {r : Span} → k ≡ kinds.Method m r → {n : Span} → n ≡ name_span m.named →
      Member (record { raw = r; name = n; body = Method m }) ≡ role_of k
  role_method {m} {r} e f = ap (λ x. Member (record { raw = r; name = x; body = Method m })) f ∙ sym (ap role_of e)

  pub role_refused : {n : Refusal} → k ≡ kinds.Refused n → Neither ≡ role_of k
  role_refused e = sym (ap role_of e)

pub ruleset roles = (role_class, role_field, role_method, role_refused, rules)

-- The row.
module _ (c at : ℕ) (q : Places) {body : Body} {raw descriptor name : Text} (a : raw ≡ text at (q.descriptor - at)) (b : descriptor ≡ text q.descriptor (q.name - q.descriptor))
    (e : name ≡ text q.name (q.owner - q.name)) where
  pub row_field : {declared : Span} → body ≡ Field declared → {row : List ℕ} →
      row ≡ pack_member (record { kind = 0; class = c; raw_name = raw; descriptor = descriptor; name = name; owner = record { place = 0; length = 0 }; ranges = ranges.None }) → row ≡ pack_member (member_placed c at q body)
  row_field f g = g ∙ rw (a, b, e, f)

  module _ {m : method.Method} (f : body ≡ Method m) {owner : Text} (o : owner ≡ text q.owner (q.«end» - q.owner)) {ranges : Ranges} (r : ranges ≡ ranges_of m.raw m.display) where
    pub row_method : {row : List ℕ} →
        row ≡ pack_member (record { kind = 1; class = c; raw_name = raw; descriptor = descriptor; name = name; owner = owner; ranges = ranges }) → row ≡ pack_member (member_placed c at q body)
    row_method g = g ∙ rw (a, b, e, f, o, r)

module _ (at : ℕ) (q : Places) (x : Rising at q most_pool) where
  pub raw_order : at ≤ q.descriptor
  raw_order = x.raw

  pub raw_inside : q.descriptor ≤ most_pool
  raw_inside = omega (arith, x.descriptor, x.name, x.owner, x.inside)

  pub descriptor_order : q.descriptor ≤ q.name
  descriptor_order = x.descriptor

  pub descriptor_inside : q.name ≤ most_pool
  descriptor_inside = omega (arith, x.name, x.owner, x.inside)

  pub name_order : q.name ≤ q.owner
  name_order = x.name

  pub name_inside_lem : q.owner ≤ most_pool
  name_inside_lem = omega (arith, x.owner, x.inside)

  pub owner_order : q.owner ≤ q.«end»
  owner_order = x.owner

  pub owner_inside : q.«end» ≤ most_pool
  owner_inside = x.inside

pub ruleset member_rows =
    (row_field, row_method, raw_order, raw_inside, descriptor_order, descriptor_inside, name_order, name_inside_lem, owner_order, owner_inside, rules)
