-- Raw descriptors of methods by their display types. Assumes nothing.
use Rattle.std.specs.Prelude.{Result, Ok, Err, Option, Some, None}
use mathlib.Core.Path.{◌≡◌, refl, sym, ◌∙◌, ap}
use mathlib.Core.List.{List, [], ◌∷◌, ◌++◌, append_assoc, append-nil}
use Prim.Native.Nat.{ℕ, ◌+◌, ◌-◌, ◌≤◌, ◌<◌}
use native.Mathlib.Omega.{arith}
use native.Mathlib.Nat.{add-zero}
use lib.ListN.{length, drop, length-append, drop_of_length-le}
use borrow.Author.Rules.{rules}
use Rattle.ground.specs.Put.{between}
use Rattle.ground.proofs.PutLaws.{put_nothing}
use Rattle.line_parts.specs.Arguments.{arguments_of, Splits}
use Rattle.line_parts.specs.Inner.NextArgument.{next_argument, taken_argument}
use Rattle.line_parts.proofs.Listed.{no_arguments, arguments_split, arguments_end}
use Rattle.ground.specs.Join.{join}
use Rattle.table_rows.specs.Classes.{Pair}
use Rattle.table_pool.specs.Inner.Wrote.{Written, WroteBy, no_room}
use Rattle.table_pool.proofs.Writes.{written_length, wrote_told, wrote_none, wrote_then, wrote_as, two_no_first}
use Rattle.tables.specs.Back.{read_back}
use Rattle.descriptor.specs.Raw.{raw_type_of}
use Rattle.load_raw_types.specs.Inner.Behind.{Indexed}
use Rattle.load_raw_types.proofs.Indexing.{read_back_put, indexed_put}
use Rattle.load_rule.specs.Members.{argument_types, types_descriptor}
use Rattle.ground.proofs.Joins.{join_more, join_append}
use Rattle.table_pool.specs.declared.write.NoRoom.{NoRoom}
use Rattle.line_parts.specs.declared.arguments.NextArgument.{NextArgument}
use Rattle.load_raw_types.proofs.Typed.{wrote_err}

-- nothing is written yet
pub written_nothing : (d : List ℕ) (at : ℕ) → at ≤ length d → Written at d at [] d
written_nothing d at h = record { past = sym (add-zero at); room = omega arith; is = sym (put_nothing d at) }

-- no room for a part, hence none for the whole
pub none_after : (d : List ℕ) {at q : ℕ} {a d₁ : List ℕ} (b c : List ℕ) → Written q d at a d₁ → length d₁ < q + length b → length d < at + length (a ++ (b ++ c))
none_after d {at} {q} {a} {d₁} b c w h =
    let n = written_length w in
    let p = w.past in
    let x = length-append a (b ++ c) in
    let y = length-append b c in
    omega arith

-- Arguments: `done` of them are written up to the place `to`, and those from the place `from` of their text on are left.
pub record Arguing (rows : List (List ℕ)) (index d : List ℕ) (at : ℕ) (s : List ℕ) (to «from» : ℕ) (d₁ : List ℕ) : Type 0 where
  pub done : List (List ℕ)
  pub split : arguments_of s ≡ done ++ arguments_of (drop «from» s)
  pub written : Written to d at (argument_types (read_back rows d) done) d₁
  pub indexed : Indexed rows d₁ index to
  pub same : read_back rows d₁ ≡ read_back rows d
  pub size : length d₁ ≡ length d

pub arguing_starts : (rows : List (List ℕ)) (index d : List ℕ) (at : ℕ) (s : List ℕ) → Indexed rows d index at → Arguing rows index d at s at 0 d
unfolding join
arguing_starts rows index d at s x = record { done = []; split = refl; written = written_nothing d at x.below.room; indexed = x; same = refl; size = refl }

module _ {rows : List (List ℕ)} {index d : List ℕ} {at : ℕ} {s : List ℕ} {to «from» : ℕ} {d₁ : List ℕ} (k : Arguing rows index d at s to «from» d₁) where
  pub arguing_indexed : Indexed rows d₁ index to
  arguing_indexed = k.indexed

  ended : arguments_of (drop «from» s) ≡ [] → WroteBy (Ok to) d at (argument_types (read_back rows d) (arguments_of s)) d₁
  ended e =
      let all : arguments_of s ≡ k.done = k.split ∙ ap (λ l. k.done ++ l) e ∙ append-nil k.done in
      rw all k.written

  pub arguing_ends : length s ≤ «from» → WroteBy (Ok to) d at (argument_types (read_back rows d) (arguments_of s)) d₁
  arguing_ends h = ended (ap arguments_of (drop_of_length-le s h) ∙ no_arguments)

  module _ {t : Option NextArgument} (p : t ≡ next_argument s «from») where
    pub arguing_none : t ≡ None → WroteBy (Ok to) d at (argument_types (read_back rows d) (arguments_of s)) d₁
    arguing_none q = ended (arguments_end s «from» (sym p ∙ q))

    module _ (h : «from» < length s) {y : NextArgument} (q : t ≡ Some y) where
      splits : Splits s «from» y.start y.«end» y.next
      splits = arguments_split s «from» h (sym p ∙ q)

      pub arguing_order : y.start ≤ y.«end»
      arguing_order = splits.order

      pub arguing_inside : y.«end» ≤ length s
      arguing_inside = let x = splits.ends in let w = splits.within in omega arith

      pub arguing_falls : length s - y.next < length s - «from»
      arguing_falls = let x = splits.past in let w = splits.within in omega arith

      next : arguments_of s ≡ k.done ++ (between s y.start y.«end» ∷ arguments_of (drop y.next s))
      next = k.split ∙ ap (λ l. k.done ++ l) splits.split

      module _ (r : Result ℕ NoRoom) (d₂ : List ℕ) (w : WroteBy r d₁ to (raw_type_of (read_back rows d₁) (between s y.start y.«end»)) d₂) where
        here : WroteBy r d₁ to (raw_type_of (read_back rows d) (between s y.start y.«end»)) d₂
        here = rw k.same at w

        pub arguing_room : r ≡ Err no_room → length d < at + length (argument_types (read_back rows d) (arguments_of s))
        unfolding join
        arguing_room f =
            let cs : List Pair = read_back rows d in
            let all : argument_types cs (arguments_of s) ≡ argument_types cs k.done ++ (raw_type_of cs (between s y.start y.«end») ++ argument_types cs (arguments_of (drop y.next s))) =
            ap (argument_types cs) next ∙ join_append (raw_type_of cs) k.done (between s y.start y.«end» ∷ arguments_of (drop y.next s)) in
            rw all (none_after d (raw_type_of cs (between s y.start y.«end»)) (argument_types cs (arguments_of (drop y.next s))) k.written (wrote_none r d₁ to (raw_type_of cs (between s y.start y.«end»)) d₂ here f))

        pub arguing_more : {q : ℕ} → r ≡ Ok q → Arguing rows index d at s q y.next d₂
        arguing_more {q} f =
            let one : Written q d₁ to (raw_type_of (read_back rows d) (between s y.start y.«end»)) d₂ = wrote_told r d₁ to (raw_type_of (read_back rows d) (between s y.start y.«end»)) d₂ here f in
            let more : argument_types (read_back rows d) (k.done ++ (between s y.start y.«end» ∷ [])) ≡ argument_types (read_back rows d) k.done ++ raw_type_of (read_back rows d) (between s y.start y.«end») =
            join_more (raw_type_of (read_back rows d)) k.done (between s y.start y.«end») in
            record {
              done = k.done ++ (between s y.start y.«end» ∷ []);
              split = next ∙ sym (append_assoc k.done (between s y.start y.«end» ∷ []) (arguments_of (drop y.next s)));
              written = rw more (wrote_then (Ok q) (raw_type_of (read_back rows d) (between s y.start y.«end»)) d₂ k.written one);
              indexed = indexed_put k.indexed one;
              same = read_back_put k.indexed one ∙ k.same;
              size = written_length one ∙ k.size;
            }

pub ruleset arguing = (wrote_err, arguing_starts, arguing_indexed, arguing_ends, arguing_none, arguing_order, arguing_inside, arguing_falls, arguing_room, arguing_more, rules)

-- One text after another, of which the second is made from the classes.
module _ (rows : List (List ℕ)) (index d : List ℕ) (at : ℕ) (x : Indexed rows d index at) (a : List ℕ) (r : Result ℕ NoRoom) (d₁ : List ℕ) (w : WroteBy r d at a d₁) where
  module _ {q : ℕ} (e : r ≡ Ok q) where
    pub indexed_after : Indexed rows d₁ index q
    indexed_after = indexed_put x (wrote_told r d at a d₁ w e)

    both_done : (f : List Pair → List ℕ) (r₂ : Result ℕ NoRoom) (d₂ : List ℕ) → WroteBy r₂ d₁ q (f (read_back rows d₁)) d₂ → WroteBy r₂ d at (a ++ f (read_back rows d)) d₂
    both_done f r₂ d₂ v =
        let first = wrote_told r d at a d₁ w e in
        wrote_then r₂ (f (read_back rows d)) d₂ first (wrote_as r₂ d₁ q d₂ (ap f (read_back_put x first)) v)

-- `(` and the arguments, `)` and the return type
module _ (rows : List (List ℕ)) (index d : List ℕ) (at : ℕ) (x : Indexed rows d index at) (r : Result ℕ NoRoom) (d₁ : List ℕ) where
  module _ (arguments : List (List ℕ)) (w : WroteBy r d at (0x28 ∷ []) d₁) where
    pub opening_none : r ≡ Err no_room → length d < at + length (0x28 ∷ argument_types (read_back rows d) arguments)
    opening_none e = two_no_first d at (0x28 ∷ []) (argument_types (read_back rows d) arguments) r d₁ w e

    pub opening_done : {q : ℕ} → r ≡ Ok q → (r₂ : Result ℕ NoRoom) (d₂ : List ℕ) → WroteBy r₂ d₁ q (argument_types (read_back rows d₁) arguments) d₂ →
        WroteBy r₂ d at (0x28 ∷ argument_types (read_back rows d) arguments) d₂
    opening_done e r₂ d₂ v = both_done rows index d at x (0x28 ∷ []) r d₁ w e (λ cs. argument_types cs arguments) r₂ d₂ v

  module _ (returned : List ℕ) (w : WroteBy r d at (0x29 ∷ []) d₁) where
    pub returned_none : r ≡ Err no_room → length d < at + length (0x29 ∷ raw_type_of (read_back rows d) returned)
    returned_none e = two_no_first d at (0x29 ∷ []) (raw_type_of (read_back rows d) returned) r d₁ w e

    pub returned_done : {q : ℕ} → r ≡ Ok q → (r₂ : Result ℕ NoRoom) (d₂ : List ℕ) → WroteBy r₂ d₁ q (raw_type_of (read_back rows d₁) returned) d₂ →
        WroteBy r₂ d at (0x29 ∷ raw_type_of (read_back rows d) returned) d₂
    returned_done e r₂ d₂ v = both_done rows index d at x (0x29 ∷ []) r d₁ w e (λ cs. raw_type_of cs returned) r₂ d₂ v

  module _ (arguments : List (List ℕ)) (returned : List ℕ) (w : WroteBy r d at (0x28 ∷ argument_types (read_back rows d) arguments) d₁) where
    pub types_none : r ≡ Err no_room → length d < at + length (types_descriptor (read_back rows d) arguments returned)
    types_none e = two_no_first d at (0x28 ∷ argument_types (read_back rows d) arguments) (0x29 ∷ raw_type_of (read_back rows d) returned) r d₁ w e

    pub types_done : {q : ℕ} → r ≡ Ok q → (r₂ : Result ℕ NoRoom) (d₂ : List ℕ) → WroteBy r₂ d₁ q (0x29 ∷ raw_type_of (read_back rows d₁) returned) d₂ →
        WroteBy r₂ d at (types_descriptor (read_back rows d) arguments returned) d₂
    types_done e r₂ d₂ v = both_done rows index d at x (0x28 ∷ argument_types (read_back rows d) arguments) r d₁ w e (λ cs. 0x29 ∷ raw_type_of cs returned) r₂ d₂ v

pub ruleset opening = (indexed_after, opening_none, opening_done, rules)

pub ruleset returning = (indexed_after, returned_none, returned_done, rules)

pub ruleset types = (indexed_after, types_none, types_done, rules)
