-- A member by places, in terms of RFC 8259's reader on lists.
use Rattle.std.specs.Prelude.{◌≡◌, List, ℕ, ◌≤◌, length, drop, Option, Some, None}
use Rattle.json_grammar.specs.Grammar.{Meaning}
use Rattle.json_grammar.specs.Reader.{Out, got, bad, Item, item}
use Rattle.json_values.specs.declared.value.Member.{Member}

abbrev pub taken_member : ℕ → ℕ → Member
taken_member value next = record { value = value; next = next }

-- a member was read, its value from the place `value` on, and what is left starts at the place `next`
pub record ReadMember (s : List ℕ) (value next : ℕ) (o : Out Item) : Type 0 where
  pub starts : value ≤ length s
  pub inside : next ≤ length s
  pub key : List ℕ
  pub meaning : Meaning
  pub reads : o ≡ got (item key meaning (drop value s)) (drop next s)

-- the answer `r` says of the text `s` what the reader's answer `o` does
abbrev pub MemberMeans : List ℕ → Option Member → Out Item → Type 0
MemberMeans s (Some r) o = ReadMember s r.value r.next o
MemberMeans s None o = o ≡ bad
