-- Runs of octets by places, in terms of RFC 8259's reader on lists.
use Rattle.std.specs.Prelude.{◌≡◌, Bool, List, ℕ, ◌≤◌, length, drop}
use Rattle.json_grammar.specs.Reader.{past_all, past}

-- `r` is the place after all octets from `start` on for which `p` holds
pub record Past (p : ℕ → Bool) (s : List ℕ) (start r : ℕ) : Type 0 where
  pub inside : r ≤ length s
  pub rest : past_all p (drop start s) ≡ drop r s

-- `r` is the place after one octet for which `p` holds, or `start` where there is none
pub record PastOne (p : ℕ → Bool) (s : List ℕ) (start r : ℕ) : Type 0 where
  pub inside : r ≤ length s
  pub rest : past p (drop start s) ≡ drop r s
