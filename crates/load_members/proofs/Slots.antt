-- What a line adds to the rows and the pool. Assumes nothing.
use Rattle.std.specs.Prelude.{Result, Ok, Err, Option}
use mathlib.Core.Path.{◌≡◌, refl, sym, ◌∙◌}
use mathlib.Core.List.{List}
use mathlib.Core.Logic.{inl, inr}
use Prim.Native.Nat.{ℕ, ◌+◌, ◌-◌, ◌≤◌, ◌<◌}
use native.Mathlib.Omega.{arith}
use lib.ListN.{length, drop, set, length-take}
use mir.Val.{Fits}
use mir.Syntax.{w32, w64}
use borrow.Author.Rules.{rules}
use Rattle.ground.specs.Put.{between}
use Rattle.ground.proofs.Parts.{take_rest}
use Rattle.text_places.specs.Lines.{lines}
use Rattle.text_places.specs.declared.spans.Span.{Span}
use Rattle.text_places.specs.Spans.{Lies}
use Rattle.table_rows.specs.Rows.{pack_member, most_pool}
use Rattle.tables.specs.Back.{read_back}
use Rattle.load_raw_types.specs.Inner.Behind.{Indexed}
use Rattle.load_rule.specs.Comments.{residual_in}
use Rattle.load_residual.specs.Inner.Residuals.{Gives}
use Rattle.load_texts.specs.declared.texts.MemberLine.{MemberLine}
use Rattle.load_texts.specs.declared.texts.Places.{Places}
use Rattle.load_texts.specs.Inner.Texts.{MemberIn, texts_of}
use Rattle.load_texts.specs.Inner.Places.{EnteredTexts, EnteredTextsBy, Rising, member_placed}
use Rattle.load_members.specs.declared.role.Role.{Role}
use Rattle.load_members.specs.declared.role.Role.TheVariants.{Class, Member, Neither}
use Rattle.load_scan.specs.declared.step.LineStep.{LineStep}
use Rattle.load_members.specs.declared.enter.Slot.{Slot}
use Rattle.load_scan.specs.Inner.Steps.{bytes_of}
use Rattle.load_members.specs.Inner.Roles.{role_of}
use Rattle.load_members.specs.Inner.Enters.{slot_at, MemberReady, Behind, RoleReady, Ready, texts_in, WrittenMember, WrittenMemberBy, under_class, EnterBy}
use Rattle.table_pool.specs.declared.write.NoRoom.{NoRoom}
use Rattle.table_pool.specs.Inner.Wrote.{no_room}
use Rattle.load_residual.specs.declared.residual.Residual.{Residual}

-- A member.
pub member_given : {s : List ℕ} {x : LineStep} {t : Slot} {parts : MemberLine} {r : Option Residual} → MemberReady s x t parts → Behind s x r →
    Gives (between s x.next (length s)) r (residual_in (lines (between s x.next (length s))))
member_given {s} {x} k b = rw (take_rest s x.next) (rw k.lasts at b.gives)

pub member_parts : {s : List ℕ} {x : LineStep} {t : Slot} {parts : MemberLine} → MemberReady s x t parts → MemberIn parts (length (between s x.start x.«end»))
member_parts k = k.lies

module _ {s : List ℕ} {rows : List (List ℕ)} {index : List ℕ} {x : LineStep} {t : Slot} {p : List ℕ} (k : Ready s rows index x t p) where
  pub member_indexed : Indexed rows p index t.place
  member_indexed = k.indexed

  module _ (parts : MemberLine) (m : List (List ℕ)) where
    pub member_few : (m₁ : List (List ℕ)) (p₁ : List ℕ) → length m ≤ t.row → WrittenMemberBy (Err no_room) s rows x parts t m p m₁ p₁
    member_few m₁ p₁ h = inl h

    module _ (r : Result Places NoRoom) (p₁ : List ℕ)
        (w : EnteredTextsBy r p t.place (texts_of (read_back rows p) (residual_in (lines (between s x.next (length s)))) (between s t.own t.own_end) (between s x.start x.«end») parts) p₁) where
      as_ruled : EnteredTextsBy r p t.place (texts_in s (read_back rows p) x t parts) p₁
      as_ruled = rw (take_rest s x.next) at w

      pub member_short : (m₁ : List (List ℕ)) → r ≡ Err no_room → WrittenMemberBy (Err no_room) s rows x parts t m p m₁ p₁
      member_short m₁ e = inr (rw e at as_ruled)

      module _ {places : Places} (e : r ≡ Ok places) where
        it : EnteredTexts places p t.place (texts_in s (read_back rows p) x t parts) p₁
        it = rw e at as_ruled

        pub member_rising : Rising t.place places most_pool
        member_rising =
            let l = it.placed in
            let d = l.descriptor in
            let n = l.name in
            let o = l.owner in
            let z = l.«end» in
            let most = k.pool in
            let room = it.written.room in
            let end_is = it.written.past in
            record { raw = omega arith; descriptor = omega arith; name = omega arith; owner = omega arith; inside = omega arith }

        pub member_at_lem : t.row < length m → {row : List ℕ} → row ≡ pack_member (member_placed (t.classes - 1) t.place places parts.body) →
            WrittenMember (slot_at (t.row + 1) places.«end» t.classes t.own t.own_end) s rows x parts t m p (set m t.row row) p₁
        member_at_lem h f = record { places = places; texts = it; room = h; row = rw f refl; next = refl }

pub ruleset member_slots = (member_parts, member_given, member_indexed, member_few, member_short, member_rising, member_at_lem, rules)

-- A line by its role.
role_class : (ro : Role) (s : List ℕ) (x : LineStep) (t : Slot) {d : Span} → RoleReady ro s x t → ro ≡ Class d → Lies d (length (bytes_of s x))
role_class ro s x t k e = rw e at k

role_member : (ro : Role) (s : List ℕ) (x : LineStep) (t : Slot) {parts : MemberLine} → RoleReady ro s x t → ro ≡ Member parts → MemberReady s x t parts
role_member ro s x t k e = rw e at k

module _ {s : List ℕ} {rows : List (List ℕ)} {index : List ℕ} {x : LineStep} {t : Slot} {p : List ℕ} (k : Ready s rows index x t p)
    {ro : Role} (g : ro ≡ role_of x.kind) where
  pub line_classes : Fits w32 (t.classes + 1)
  line_classes = let f = k.few in omega arith

  module _ {d : Span} (e : ro ≡ Class d) where
    named : Lies d (length (bytes_of s x))
    named = role_class (role_of x.kind) s x t k.role (sym g ∙ e)

    within : d.«end» ≤ x.«end» - x.start
    within = let w = named.within in let l = length-take (x.«end» - x.start) (drop x.start s) in omega arith

    pub line_own : Fits w64 (x.start + d.start)
    line_own = let a = k.short in let b = k.order in let c = k.inside in let o = named.order in let w = within in omega arith

    pub line_own_end : Fits w64 (x.start + d.«end»)
    line_own_end = let a = k.short in let b = k.order in let c = k.inside in let w = within in omega arith

  pub line_member : {parts : MemberLine} → ro ≡ Member parts → MemberReady s x t parts
  line_member e = role_member (role_of x.kind) s x t k.role (sym g ∙ e)

module _ (s : List ℕ) (rows : List (List ℕ)) (x : LineStep) (t : Slot) (m : List (List ℕ)) (p : List ℕ) {ro : Role} (g : ro ≡ role_of x.kind) where
  pub line_neither : ro ≡ Neither → EnterBy (role_of x.kind) (Ok t) s rows x t m p m p
  line_neither e = rw (← g, e) (record { answer = refl; rows = refl; pool = refl })

  pub line_class : {d : Span} → ro ≡ Class d → EnterBy (role_of x.kind) (Ok (under_class x d t)) s rows x t m p m p
  line_class {d} e = rw (← g, e) (record { answer = refl; rows = refl; pool = refl })

  pub line_entered : {parts : MemberLine} → ro ≡ Member parts → (r : Result Slot NoRoom) (m₁ : List (List ℕ)) (p₁ : List ℕ) → WrittenMemberBy r s rows x parts t m p m₁ p₁ →
      EnterBy (role_of x.kind) r s rows x t m p m₁ p₁
  line_entered e r m₁ p₁ w = rw (← g, e) w

pub ruleset line_slots = (line_classes, line_own, line_own_end, line_member, line_neither, line_class, line_entered, rules)
