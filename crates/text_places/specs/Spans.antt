-- Parts of a text.
use Rattle.std.specs.Prelude.{Bool, List, ℕ, ◌+◌, ◌≤◌, eqb}
use Rattle.ground.specs.Put.{between}
use Rattle.text_places.specs.declared.spans.Span.{Span}

abbrev pub span : ℕ → ℕ → Span
span a e = record { start = a; «end» = e }

-- a part of what starts at the place `by`
abbrev pub shift : ℕ → Span → Span
shift by p = span (by + p.start) (by + p.«end»)

abbrev pub is_empty : Span → Bool
is_empty p = eqb p.start p.«end»

-- its bytes
abbrev pub part_of : List ℕ → Span → List ℕ
part_of s p = between s p.start p.«end»

-- Two words that no rule cites, but contracts and the laws "parts of a line lie in it" (line_parts/proofs/Lying).

-- a part starts no later than it ends, and ends at `n` at the latest
pub record Lies (p : Span) (n : ℕ) : Type 0 where
  pub order : p.start ≤ p.«end»
  pub within : p.«end» ≤ n

-- the largest place that there can be
abbrev pub largest : ℕ
largest = 18446744073709551615
