-- What a success states: its counts, and the raw descriptor of each member. Assumes nothing.
use Rattle.std.specs.Prelude.{Ok}
use mathlib.Core.Path.{◌≡◌, refl, sym, ◌∙◌, ap, subst}
use mathlib.Core.Bool.{Bool, true, false}
use mathlib.Core.List.{List, [], ◌∷◌, ◌++◌}
use Prim.Native.Nat.{ℕ, ◌+◌}
use native.Mathlib.Nat.{zero-add}
use lib.ListN.{length, get_or, length-append}
use lib.Seq.{get_or-append-add}
use Rattle.ground.specs.Look.{Look, known, unknown}
use Rattle.ground.proofs.Cases.{clash}
use Rattle.line.specs.declared.line.Line.{Line}
use Rattle.line.specs.declared.line.Line.TheVariants.{Blank, Comment, Class, Field, Method, Refused}
use Rattle.line.specs.Kinds.{line_of}
use Rattle.table_rows.specs.Tables.{Tables}
use Rattle.table_rows.specs.Classes.{Pair}
use Rattle.load_rule.specs.declared.Fates.{Fates}
use Rattle.load_rule.specs.Comments.{residual_in}
use Rattle.load_rule.specs.declared.Fate.TheVariants as fate
use Rattle.load_rule.specs.Fates.{one, no_fates, plus, fate_of, member_after, fates_from, fault_of, class_line, loaded_with}
use Rattle.load_rule.specs.Classes.{classes_of}
use Rattle.load_rule.specs.Members.{Under, under, under_after, Entry, entry_in, entries_from}
use Rattle.load_rule.specs.Theorems.{Counts, used_of}
use Rattle.load_rule.specs.Loading.{lent_of, entries_of}
use Rattle.load_rule.proofs.Tally.{plus_plus}
use Rattle.load_rule.proofs.Numbers.{refused_faulty}
use Rattle.load_rule.proofs.Sums.{fates_sum, member_count}
use Rattle.load_rule.proofs.First.{Clean, sound_clean}
use Rattle.load_rule.proofs.Exactly.{loaded_iff}
use Rattle.load.specs.Loads.{Loads}
use Rattle.name_rule.specs.Mappings.{mapping_of}
use Rattle.tables.specs.Check.{all_of}
use Rattle.meaning.specs.Success.{is_member, member_behind, EndsWithMember, members_in, no_entry, given_descriptor, typed_descriptor, SignatureStated}
use Rattle.meaning.proofs.ClassesBack.{all_first}
use Rattle.meaning.proofs.LoadedTables.{tables_back}
use Rattle.meaning.proofs.AppliedComments.{residual_iff, residual_none, is_read, applied_behind}

-- "Accepted loads count lines ..; the last six sum to lines."
pub success_counts : {s : List ℕ} {ls : List (List ℕ)} {before t : Tables} {f : Fates} {names : ℕ} →
    Loads (Ok (loaded_with f names)) s ls before t → Counts ls f
success_counts {s} {ls} {before} {t} {f} {names} l =
    fates_sum ls ((loaded_iff s ls (lent_of before) f names).0 (sym l.answer)).passed.sound

none_plus : (f : Fates) → plus no_fates f ≡ f
none_plus f = simp zero-add

-- what became of all lines is what became of the first ones and of the others, each line counted by its fate where it stands
pub fates_split : (member : Bool) (a b : List (List ℕ)) →
    fates_from member (a ++ b) ≡ plus (fates_from member a) (fates_from (member_behind member a) b)
unfolding fates_from member_behind
fates_split member [] b = sym (none_plus (fates_from member b))
fates_split member (l ∷ a) b =
    ap (plus (one (fate_of member l (line_of l)))) (fates_split (member_after member (line_of l)) a b)
    ∙ sym (plus_plus (one (fate_of member l (line_of l))) (fates_from (member_after member (line_of l)) a)
    (fates_from (member_behind (member_after member (line_of l)) a) b))

-- The row of a member line.
entry_length : (cs : List Pair) (u : Under) (g h : Look) (l : List ℕ) (k : Line) →
    length (entry_in cs u g l k) ≡ length (entry_in cs u h l k)
entry_length cs u g h l Blank = refl
entry_length cs u g h l (Comment brace) = refl
entry_length cs u g h l (Class display raw) = refl
entry_length cs u g h l (Field declared name raw) = refl
entry_length cs u g h l (Method m raw) = refl
entry_length cs u g h l (Refused r) = refl

unfoldable under_behind : Under → List (List ℕ) → Under
under_behind u [] = u
under_behind u (l ∷ ls) = under_behind (under_after u l (line_of l)) ls

row_at : (cs : List Pair) (u : Under) (before : List (List ℕ)) (l : List ℕ) (after : List (List ℕ)) →
    get_or (entries_from cs u (before ++ (l ∷ after))) (length (entries_from cs u before)) no_entry ≡
    get_or (entries_from cs (under_behind u before) (l ∷ after)) 0 no_entry
unfolding entries_from under_behind
row_at cs u [] l after = refl
row_at cs u (x ∷ xs) l after =
    let here : List Entry = entry_in cs u (residual_in (xs ++ (l ∷ after))) x (line_of x) in
    let alone : List Entry = entry_in cs u (residual_in xs) x (line_of x) in
    let u₁ : Under = under_after u x (line_of x) in
    let rest : List Entry = entries_from cs u₁ (xs ++ (l ∷ after)) in
    let place : length (alone ++ entries_from cs u₁ xs) ≡ length here + length (entries_from cs u₁ xs) =
    length-append alone (entries_from cs u₁ xs)
    ∙ ap (λ n. n + length (entries_from cs u₁ xs)) (entry_length cs u (residual_in xs) (residual_in (xs ++ (l ∷ after))) x (line_of x)) in
    ap (λ n. get_or (here ++ rest) n no_entry) place
    ∙ get_or-append-add here rest (length (entries_from cs u₁ xs)) no_entry
    ∙ row_at cs u₁ xs l after

-- its raw descriptor, by what the comments behind it give
abbrev DescriptorBy : List Pair → List ℕ → Line → Look → List ℕ → Type 0
DescriptorBy cs l k (known v) d = d ≡ given_descriptor k v
DescriptorBy cs l k unknown d = d ≡ typed_descriptor cs l k

line_descriptor : (cs : List Pair) (u : Under) (g : Look) (l : List ℕ) (k : Line) (rest : List Entry) → is_member k ≡ true →
    DescriptorBy cs l k g (get_or (entry_in cs u g l k ++ rest) 0 no_entry).descriptor
line_descriptor cs u g l Blank rest m = clash m refl
line_descriptor cs u g l (Comment brace) rest m = clash m refl
line_descriptor cs u g l (Class display raw) rest m = clash m refl
line_descriptor cs u (known v) l (Field declared name raw) rest m = refl
line_descriptor cs u unknown l (Field declared name raw) rest m = refl
line_descriptor cs u (known v) l (Method s raw) rest m = refl
line_descriptor cs u unknown l (Method s raw) rest m = refl
line_descriptor cs u g l (Refused r) rest m = clash m refl

module _ (cs : List Pair) (before : List (List ℕ)) (l : List ℕ) (after : List (List ℕ)) (member : is_member (line_of l) ≡ true) where
  abbrev all : List Entry
  all = entries_from cs (under 0 []) (before ++ (l ∷ after))

  row_descriptor : DescriptorBy cs l (line_of l) (residual_in after) (get_or all (members_in before) no_entry).descriptor
  unfolding entries_from
  row_descriptor =
      let u : Under = under_behind (under 0 []) before in
      let place : get_or all (members_in before) no_entry ≡ get_or (entries_from cs u (l ∷ after)) 0 no_entry =
      ap (λ n. get_or all n no_entry) (member_count false cs (under 0 []) before) ∙ row_at cs (under 0 []) before l after in
      subst (λ e. DescriptorBy cs l (line_of l) (residual_in after) e.descriptor) (sym place)
      (line_descriptor cs u (residual_in after) l (line_of l) (entries_from cs (under_after u l (line_of l)) after) member)

  row_stated : SignatureStated cs all before l after
  row_stated =
      record {
        applied = λ v a. subst (λ g. DescriptorBy cs l (line_of l) g (get_or all (members_in before) no_entry).descriptor)
            ((residual_iff after v).1 a) row_descriptor;
        unapplied = λ none. subst (λ g. DescriptorBy cs l (line_of l) g (get_or all (members_in before) no_entry).descriptor)
            ((residual_none after).1 none) row_descriptor;
      }

-- Lines of an accepted load are all read.
clean_line : (classes : ℕ) (k : Line) → fault_of classes k ≡ 0 → is_read k ≡ true
clean_line classes Blank e = refl
clean_line classes (Comment brace) e = refl
clean_line classes (Class display raw) e = refl
clean_line classes (Field declared name raw) e = refl
clean_line classes (Method m raw) e = refl
clean_line classes (Refused r) e = absurd (refused_faulty classes r e)

clean_read : (classes : ℕ) (ls : List (List ℕ)) → Clean classes ls → all_of (λ l. is_read (line_of l)) ls ≡ true
unfolding Clean all_of
clean_read classes [] c = refl
clean_read classes (l ∷ ls) (e, c) = rw (clean_line classes (line_of l) e, clean_read (classes + class_line (line_of l)) ls c)

-- Over the entry points.
module _ {s : List ℕ} {ls : List (List ℕ)} {lent t : Tables} {f : Fates} {names : ℕ} (load : Loads (Ok (loaded_with f names)) s ls lent t) where
  -- the row of a member has the signature of the last comment that is applied to it, and one exactly where there is such a comment
  pub success_signatures : (before : List (List ℕ)) (l : List ℕ) (after : List (List ℕ)) → ls ≡ before ++ (l ∷ after) →
      is_member (line_of l) ≡ true → SignatureStated (classes_of ls) (mapping_of t (used_of f names)).members before l after
  success_signatures before l after e m =
      let back : (mapping_of t (used_of f names)).members ≡ entries_of ls = ap (λ x. x.members) (tables_back load) in
      let whole : SignatureStated (classes_of ls) (entries_from (classes_of ls) (under 0 []) (before ++ (l ∷ after))) before l after =
      row_stated (classes_of ls) before l after m in
      subst (λ es. SignatureStated (classes_of ls) es before l after)
      (ap (entries_from (classes_of ls) (under 0 [])) (sym e) ∙ sym back) whole

  -- and a comment that is counted as applied has its member
  pub success_applied : (before : List (List ℕ)) (l : List ℕ) (after : List (List ℕ)) → ls ≡ before ++ (l ∷ after) →
      fate_of (member_behind false before) l (line_of l) ≡ fate.Applied → EndsWithMember before
  success_applied before l after e a =
      let sound = ((loaded_iff s ls (lent_of lent) f names).0 (sym load.answer)).passed.sound in
      let read : all_of (λ x. is_read (line_of x)) ls ≡ true = clean_read 0 ls (sound_clean (fates_from false ls) 1 0 ls sound) in
      applied_behind before l (all_first (λ x. is_read (line_of x)) before (l ∷ after) (rw e at read)) a
