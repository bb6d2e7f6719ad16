-- Fates of lines, added up. Assumes nothing.
use mathlib.Core.Path.{◌≡◌, refl}
use mathlib.Core.Bool.{Bool, true, false}
use mathlib.Core.List.{List}
use Prim.Native.Nat.{ℕ}
use native.Mathlib.Nat.{add-zero, add_assoc}
use Rattle.ground.specs.Choice.{both}
use Rattle.line.specs.declared.line.Line.{Line}
use Rattle.line.specs.declared.line.Line.TheVariants.{Blank, Comment, Class, Field, Method, Refused}
use Rattle.load_rule.specs.declared.Fates.{Fates}
use Rattle.load_rule.specs.Comments.{signature_at}
use Rattle.ground.specs.Look.{is_known}
use Rattle.load_rule.specs.Fates.{no_fates, plus, one, comment_fate, method_fate, fate_of, class_line}

pub plus_none : (f : Fates) → plus f no_fates ≡ f
plus_none f = simp add-zero

pub plus_plus : (f g h : Fates) → plus (plus f g) h ≡ plus f (plus g h)
plus_plus f g h = simp add_assoc

comment_class : (b : Bool) → (one (comment_fate b)).class ≡ 0
comment_class true = refl
comment_class false = refl

method_class : (b : Bool) → (one (method_fate b)).class ≡ 0
method_class true = refl
method_class false = refl

pub fate_class : (member : Bool) (l : List ℕ) (k : Line) → (one (fate_of member l k)).class ≡ class_line k
fate_class member l Blank = refl
fate_class member l (Comment brace) = comment_class (both member (is_known (signature_at l brace)))
fate_class member l (Class display raw) = refl
fate_class member l (Field declared name raw) = refl
fate_class member l (Method m raw) = method_class m.short
fate_class member l (Refused r) = refl
