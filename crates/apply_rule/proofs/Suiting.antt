-- The tokens with numbers put in: their names are rows, and their numbers fit. Assumes nothing.
use mathlib.Core.Bool.{Bool, true, false}
use mathlib.Core.List.{List, [], ◌∷◌, ◌++◌}
use Prim.Native.Nat.{ℕ, suc, ◌+◌, ◌≤◌}
use native.Mathlib.Omega.{arith}
use lib.Dec.{eqb}
use lib.ListN.{length, length-append}
use Rattle.ground.specs.Choice.{pick}
use Rattle.ground.specs.Look.{Look, known, unknown}
use Rattle.table_rows.specs.Classes.{shown}
use Rattle.name_rule.specs.Mappings.{Mapping}
use Rattle.tree_rule.specs.declared.Token.{Token}
use Rattle.tree_rule.specs.declared.Token.TheVariants.{Other, MemberName, Descriptor, SourceLine}
use Rattle.tree_rule.specs.Trees.{Node}
use Rattle.tree_rule.specs.Files.{all_tokens}
use Rattle.tree_rule.specs.Theorems.{NamesBelow, Word, TokenFits, Every, every_none, every_one}
use Rattle.apply_rule.specs.Changes.{
  Change,
  stays,
  named,
  lined,
  name_change,
  shown_descriptor,
  Signed,
  unsigned,
  signed,
  signed_of,
  member_name,
  Context,
  context_of,
  member_change,
  change_of,
  Changed,
  changed_from,
  changed_nodes,
}
use Rattle.apply_rule.specs.Applying.{token_with, name_of, new_names, numbered, all_changed}
use Rattle.apply_rule.proofs.Fitting.{ChangeFits, every_append}
use Rattle.tree_rule.proofs.ReadWritten.{every_front, every_back}

-- A name is never replaced by a line.
abbrev NoLine : Change → Type 0
NoLine stays = 0 ≤ 0
NoLine (named s) = 0 ≤ 0
NoLine (lined n) = ⊥

abbrev pub Suits : Token → Change → Type 0
Suits (Other a b) change = 0 ≤ 0
Suits (MemberName raw display) change = NoLine change
Suits (Descriptor raw display) change = NoLine change
Suits (SourceLine raw display) change = 0 ≤ 0

no_line : (l : Look) → NoLine (name_change l)
no_line (known s) = omega arith
no_line unknown = omega arith

no_line_member : (m : Mapping) (s : Signed) (at : ℕ) → NoLine (member_change m s at)
no_line_member m unsigned at = omega arith
no_line_member m (signed place k) at = go (eqb at place)
  where
    go : (b : Bool) → NoLine (pick b (name_change (member_name m k)) stays)
    go true = no_line (member_name m k)
    go false = omega arith

module _ (m : Mapping) (class : List ℕ) (name : ℕ → List ℕ) where
  suits : (s : Signed) (c : Context) (at : ℕ) (t : Token) → Suits t (change_of m class name s c at t)
  suits s c at (Other a b) = omega arith
  suits s c at (MemberName raw display) = no_line_member m s at
  suits s c at (Descriptor raw display) = no_line (shown_descriptor (shown m.classes) (name raw))
  suits s c at (SourceLine raw display) = omega arith

  -- A statement about every token, or every token and its change, goes on to the changes of all nodes.
  module _ (Q : Changed → Type 0) (P : Token → Type 0)
      (law : (s : Signed) (c : Context) (at : ℕ) (t : Token) → P t →
      Q (record { token = t; change = change_of m class name s c at t })) where
    node_every : (s : Signed) (c : Context) (at : ℕ) (ts : List Token) → Every P ts →
        Every Q (changed_from (change_of m class name s c) at ts)
    unfolding changed_from
    node_every s c at [] e = every_none
    node_every s c at (t ∷ ts) (every_one p e) = every_one (law s c at t p) (node_every s c (suc at) ts e)

    changes_every : (done : List Context) (ns : List Node) → Every P (all_tokens ns) →
        Every Q (all_changed (changed_nodes m class name done ns))
    unfolding changed_nodes all_changed all_tokens
    changes_every done [] e = every_none
    changes_every done (n ∷ ns) e =
        let context : Context = context_of class name done n in
        every_append (changed_from (change_of m class name (signed_of class name n.tokens) context) 0 n.tokens)
        (all_changed (changed_nodes m class name (done ++ (context ∷ [])) ns))
        (node_every (signed_of class name n.tokens) context 0 n.tokens (every_front n.tokens (all_tokens ns) e))
        (changes_every (done ++ (context ∷ [])) ns (every_back n.tokens (all_tokens ns) e))

  pub changes_suit : (P : Token → Type 0) (done : List Context) (ns : List Node) → Every P (all_tokens ns) →
      Every (λ x. P x.token × Suits x.token x.change) (all_changed (changed_nodes m class name done ns))
  changes_suit P done ns e =
      changes_every (λ x. P x.token × Suits x.token x.change) P (λ s c at t p. (p, suits s c at t)) done ns e

-- One token, where the next name that is appended has the number `next`.
module _ (old names next : ℕ) (more : old ≤ names) where
  pair_below : {a b : ℕ} → (suc a ≤ old) × (suc b ≤ old) → (suc a ≤ names) × (suc b ≤ names)
  pair_below p = (omega (arith, p.0), omega (arith, p.1))

  token_below : (t : Token) (change : Change) → next + length (name_of change) ≤ names → NamesBelow old t → Suits t change →
      NamesBelow names (token_with next change t)
  token_below (Other a b) stays h p q = p
  token_below (Other a b) (named s) h p q = p
  token_below (Other a b) (lined n) h p q = p
  token_below (MemberName raw display) stays h p q = pair_below p
  token_below (MemberName raw display) (named s) h p q = (omega (arith, p.0), omega arith)
  token_below (MemberName raw display) (lined n) h p q = absurd q
  token_below (Descriptor raw display) stays h p q = pair_below p
  token_below (Descriptor raw display) (named s) h p q = (omega (arith, p.0), omega arith)
  token_below (Descriptor raw display) (lined n) h p q = absurd q
  token_below (SourceLine raw display) stays h p q = p
  token_below (SourceLine raw display) (named s) h p q = p
  token_below (SourceLine raw display) (lined n) h p q = p

token_fits : (next : ℕ) (t : Token) (change : Change) → Word next → TokenFits t → ChangeFits change → TokenFits (token_with next change t)
token_fits next t stays h p q = p
token_fits next (Other a b) (named s) h p q = (p.0, h)
token_fits next (MemberName raw display) (named s) h p q = (p.0, h)
token_fits next (Descriptor raw display) (named s) h p q = (p.0, h)
token_fits next (SourceLine raw display) (named s) h p q = (p.0, h)
token_fits next (Other a b) (lined n) h p q = (p.0, q)
token_fits next (MemberName raw display) (lined n) h p q = (p.0, q)
token_fits next (Descriptor raw display) (lined n) h p q = (p.0, q)
token_fits next (SourceLine raw display) (lined n) h p q = (p.0, q)

-- All tokens.
pub numbered_below : (old names next : ℕ) → old ≤ names → (cs : List Changed) → next + length (new_names cs) ≤ names →
    Every (λ x. NamesBelow old x.token × Suits x.token x.change) cs → Every (NamesBelow names) (numbered next cs)
unfolding numbered new_names
numbered_below old names next more [] h e = every_none
numbered_below old names next more (c ∷ cs) h (every_one p e) =
    let l = length-append (name_of c.change) (new_names cs) in
    every_one (token_below old names next more c.token c.change (omega arith) p.0 p.1)
    (numbered_below old names (next + length (name_of c.change)) more cs (omega arith) e)

pub numbered_fit : (total next : ℕ) → Word total → (cs : List Changed) → next + length (new_names cs) ≤ total →
    Every (λ x. TokenFits x.token × Suits x.token x.change) cs → Every (λ x. ChangeFits x.change) cs →
    Every TokenFits (numbered next cs)
unfolding numbered new_names
numbered_fit total next w [] h e g = every_none
numbered_fit total next w (c ∷ cs) h (every_one p e) (every_one q g) =
    let l = length-append (name_of c.change) (new_names cs) in
    every_one (token_fits next c.token c.change (omega arith) p.0 q)
    (numbered_fit total (next + length (name_of c.change)) w cs (omega arith) e g)
