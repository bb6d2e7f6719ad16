-- What an answer says is what its rule says, case by case. Assumes nothing.
use Rattle.std.specs.Prelude.{Option, Some, None, Result, Ok, Err}
use mathlib.Core.Path.{◌≡◌, sym, ◌∙◌}
use mathlib.Core.List.{[], ◌∷◌}
use Prim.Native.Nat.{ℕ}
use borrow.Author.Rules.{rules}
use Rattle.ground.proofs.Cases.{bit_told}
use Rattle.json_comment.specs.declared.answer.Stands.{Stands}
use Rattle.json_probes.specs.Answers.{stands_kind, stands_place, comment_answer_numbers, decoded_numbers, written_numbers}
use Rattle.json_comment.specs.declared.answer.Comment.{Comment}
use Rattle.json_comment.specs.Answer.{comment_with}
use Rattle.json_decode.specs.declared.write.WriteError.{WriteError}
use Rattle.json_decode.specs.declared.write.WriteError.TheVariants.{NoRoom, NoString}

module _ {t x : Option Comment} (e : t ≡ x) where
  pub said_unreadable : t ≡ None → 0 ∷ 0 ∷ 0 ∷ 0 ∷ 0 ∷ [] ≡ comment_answer_numbers x
  said_unreadable g = sym (rw (sym e ∙ g))

  pub said_readable :
      {y : Comment} {k p l q : ℕ} → t ≡ Some y →
      k ≡ stands_kind y.id → p ≡ stands_place y.id → l ≡ stands_kind y.signature → q ≡ stands_place y.signature →
      1 ∷ k ∷ p ∷ l ∷ q ∷ [] ≡ comment_answer_numbers x
  said_readable g a b c d = sym (rw (sym e ∙ g, a, b, c, d))

module _ {t x : Option ℕ} (e : t ≡ x) where
  pub said_bytes : {n : ℕ} → t ≡ Some n → 1 ∷ n ∷ [] ≡ decoded_numbers x
  said_bytes g = sym (rw (sym e ∙ g))

  pub said_no_bytes : t ≡ None → 0 ∷ 0 ∷ [] ≡ decoded_numbers x
  said_no_bytes g = sym (rw (sym e ∙ g))

module _ {t x : Result ℕ WriteError} (e : t ≡ x) where
  pub said_done : {n : ℕ} → t ≡ Ok n → 1 ∷ n ∷ [] ≡ written_numbers x
  said_done g = sym (rw (sym e ∙ g))

  pub said_no_room : t ≡ Err NoRoom → 2 ∷ 0 ∷ [] ≡ written_numbers x
  said_no_room g = sym (rw (sym e ∙ g))

  pub said_no_string : t ≡ Err NoString → 0 ∷ 0 ∷ [] ≡ written_numbers x
  said_no_string g = sym (rw (sym e ∙ g))

pub ruleset said_comments = (said_unreadable, said_readable, said_bytes, said_no_bytes, said_done, said_no_room, said_no_string, rules)

-- A test as a number.
pub ruleset counted = (bit_told, rules)
