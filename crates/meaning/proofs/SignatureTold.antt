-- The signature that a comment gives, by RFC 8259's grammar. Assumes nothing.
use Rattle.std.specs.Prelude.{Option, Some, None}
use mathlib.Core.Path.{◌≡◌, refl, sym, ◌∙◌, ap}
use mathlib.Core.Bool.{Bool, true, false}
use mathlib.Core.List.{List}
use mathlib.Core.Logic.{◌↔◌}
use Prim.Native.Nat.{ℕ}
use Rattle.ground.specs.Ascii.{ascii}
use Rattle.ground.specs.Choice.{pick}
use Rattle.ground.specs.Look.{Look, known, unknown, is_known}
use Rattle.ground.proofs.Cases.{clash}
use Rattle.text_places.specs.Places.{same}
use Rattle.text_places.proofs.PlaceLaws.{same_equal, same_refl}
use Rattle.json_grammar.specs.Grammar.{text, Named, JsonText}
use Rattle.json_grammar.specs.Members.{Last}
use Rattle.json_grammar.proofs.Readable.{readable_iff, members_are}
use Rattle.json_decode.specs.Decoded.{decoded}
use Rattle.json_comment.specs.declared.answer.Stands.{Stands}
use Rattle.json_comment.specs.declared.answer.Stands.TheVariants.{Missing, Other, Text}
use Rattle.json_comment.specs.Answer.{comment_of, residual_of, comment_with}
use Rattle.json_comment.specs.Says.{Told}
use Rattle.json_comment.proofs.Grammatical.{readable_text, unreadable_text, named_text, answer_parts, answer_says}
use Rattle.load_rule.specs.Comments.{says_residual, string_at, signature_by, signature_of}
use Rattle.meaning.specs.RfcWords.{GivesSignature}
use Rattle.json_comment.specs.declared.answer.Comment.{Comment}

abbrev residual_id : List ℕ
residual_id = ascii "com.android.tools.r8.residualsignature"

-- what a string that is read as `w` says
id_said : (s : List ℕ) (p : ℕ) {w : List ℕ} → Told s p w → says_residual s (Text p) ≡ same w residual_id
id_said s p t = ap residual_of t.chars

string_said : (s : List ℕ) (p : ℕ) {w : List ℕ} → Told s p w → string_at s (Text p) ≡ known w
string_said s p t = ap (λ o. known (decoded o)) t.chars

last_as : {k v w : List ℕ} {ms ns : List Named} → v ≡ w → ms ≡ ns → Last k (text v) ms → Last k (text w) ns
last_as e f l = rw (e, f) at l

module _ (s v : List ℕ) where
  -- From the signature to the text.
  module _ {y : Comment} (e : comment_of s ≡ Some y) (ms : List Named) (j : JsonText s ms) where
    id_last : says_residual s y.id ≡ true → Last (ascii "id") (text residual_id) ms
    id_last = go y.id refl
      where
        go : (x : Stands) → y.id ≡ x → says_residual s x ≡ true → Last (ascii "id") (text residual_id) ms
        go Missing q h = clash h refl
        go Other q h = clash h refl
        go (Text p) q h =
            let (items, f) = (readable_iff s).1 (ms, j) in
            let (w, l, t) = named_text s f (ascii "id") ((answer_parts s f e).0 ∙ q) in
            last_as (same_equal w residual_id (sym (id_said s p t) ∙ h)) (members_are s f j) l

    signature_last : string_at s y.signature ≡ known v → Last (ascii "signature") (text v) ms
    signature_last = go y.signature refl
      where
        go : (x : Stands) → y.signature ≡ x → string_at s x ≡ known v → Last (ascii "signature") (text v) ms
        go Missing q h = clash (ap is_known h) refl
        go Other q h = clash (ap is_known h) refl
        go (Text p) q h =
            let (items, f) = (readable_iff s).1 (ms, j) in
            let (w, l, t) = named_text s f (ascii "signature") ((answer_parts s f e).1 ∙ q) in
            let both : known w ≡ known v = sym (string_said s p t) ∙ h in
            let is : w ≡ v = cc in
            last_as is (members_are s f j) l

  gives : signature_of s ≡ known v → GivesSignature s v
  gives = go (comment_of s) refl
    where
      picked : (b : Bool) (l : Look) → pick b l unknown ≡ known v → (b ≡ true) × (l ≡ known v)
      picked true l h = (refl, h)
      picked false l h = clash (ap is_known h) refl

      go : (c : Option Comment) → comment_of s ≡ c → signature_by s c ≡ known v → GivesSignature s v
      go None e h = clash (ap is_known h) refl
      go (Some r) e h =
          let (ms, j) = readable_text s e in
          let (a, b) = picked (says_residual s r.id) (string_at s r.signature) h in
          record { members = ms; readable = j; id = id_last e ms j a; signature = signature_last e ms j b }

  -- and back
  given : GivesSignature s v → signature_of s ≡ known v
  given k = go (comment_of s) refl
    where
      go : (c : Option Comment) → comment_of s ≡ c → signature_by s c ≡ known v
      go None e = absurd (unreadable_text s e k.members k.readable)
      go (Some r) e =
          let (a, b) = answer_says s k.readable e in
          let (p, is, t) = (a.if_text residual_id).1 k.id in
          let (q, at, u) = (b.if_text v).1 k.signature in
          let says : says_residual s r.id ≡ true = ap (says_residual s) is ∙ id_said s p t ∙ same_refl residual_id in
          rw says (ap (string_at s) at ∙ string_said s q u)

  -- A comment's JSON gives the signature `v` exactly where it is a JSON text whose last `id` is the fixed text and whose last `signature`
  -- is a string that stands for `v`.
  pub signature_iff : (signature_of s ≡ known v) ↔ GivesSignature s v
  signature_iff = (gives, given)
