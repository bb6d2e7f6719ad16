-- A string that the answer for a comment names stands for well-formed text where the comment is well formed. Assumes nothing.
use Rattle.std.specs.Prelude.{Some}
use mathlib.Core.Path.{◌≡◌, sym, ◌∙◌, ap}
use mathlib.Core.List.{List}
use Prim.Native.Nat.{ℕ}
use lib.ListN.{drop}
use Rattle.ground.specs.Ascii.{ascii}
use Rattle.text_utf8.specs.Grammar.{Utf8Octets}
use Rattle.text_utf8.proofs.Boundaries.{octets_as}
use Rattle.json_grammar.specs.Reader.{chars_from}
use Rattle.json_grammar.proofs.ValuesAll.{json_all}
use Rattle.json_decode.specs.Decoded.{decoded}
use Rattle.json_comment.specs.declared.answer.Stands.{Stands}
use Rattle.json_comment.specs.declared.answer.Stands.TheVariants.{Text}
use Rattle.json_comment.specs.Answer.{comment_of, comment_with}
use Rattle.json_comment.proofs.Grammatical.{readable_text, named_text, answer_parts, told_octets}
use Rattle.json_comment.specs.declared.answer.Comment.{Comment}

-- what stands under `signature`
pub signature_octets : (s : List ℕ) {x : Comment} → comment_of s ≡ Some x → {p : ℕ} → x.signature ≡ Text p → Utf8Octets s → Utf8Octets (decoded (chars_from 0 (drop p s)))
signature_octets s e {p} h o =
    let (ms, j) = readable_text s e in
    let (items, n, f) = json_all j in
    let (v, l, t) = named_text s f (ascii "signature") ((answer_parts s f e).1 ∙ h) in
    octets_as (sym (ap decoded t.chars)) (told_octets s p t o)
