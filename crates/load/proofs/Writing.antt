-- Rows and pool: classes first, then members. Assumes nothing.
use Rattle.std.specs.Prelude.{Ok, Result, Err}
use mathlib.Core.Path.{◌≡◌, refl, sym, ◌∙◌, ap}
use mathlib.Core.Bool.{Bool, true, false}
use mathlib.Core.List.{List}
use mathlib.Core.Logic.{◌⊎◌, inl, inr}
use Prim.Native.Nat.{ℕ, ◌+◌, ◌≤◌, ◌<◌}
use native.Mathlib.Nat.{zero-add}
use native.Mathlib.Omega.{arith}
use lib.Dec.{eqb, ltb}
use lib.ListN.{length, take, replicate, length-append}
use borrow.Author.Rules.{rules}
use Rattle.ground.specs.Choice.{pick}
use Rattle.ground.specs.Put.{put}
use Rattle.ground.proofs.Cases.{clash}
use Rattle.ground.proofs.Parts.{prefix_whole}
use Rattle.ground.proofs.PutLaws.{put_part, length_put}
use Rattle.table_pool.specs.Inner.Wrote.{Written}
use Rattle.table_pool.proofs.Writes.{written_length, wrote_then}
use Rattle.tables.specs.Back.{read_back}
use Rattle.table_index.proofs.Filing.{no_index}
use Rattle.load_raw_types.specs.Inner.Behind.{Below, Indexed}
use Rattle.load_rule.specs.declared.Fates.{Fates}
use Rattle.load_rule.specs.Fates.{scan_of, fault_at}
use Rattle.load_rule.specs.Classes.{classes_of, class_pool, class_rows, class_row, class_text}
use Rattle.load_rule.specs.Members.{entry_pool, entry_rows, entry_row, entry_text}
use Rattle.load_rule.specs.Loading.{entries_of, pool_of, scanned, is_loaded, lent}
use Rattle.load_rule.proofs.Appended.{rows_length}
use Rattle.load_classes.specs.Inner.Written.{ClassesAt, ClassesBy, classes_to}
use Rattle.load_members.specs.Inner.Filled.{Holding, Over, members, WrittenAll, CutShort, FilledBy, filled_to}
use Rattle.load.specs.Inner.Into.{refused_of, accepted_of, IntoBy}
use Rattle.load.proofs.Deciding.{decided, accepted_as, scan_counted}
use Rattle.table_rows.specs.Rows.{most_classes, most_pool}
use Rattle.load_rule.specs.declared.Fault.{Fault}
use Rattle.load_rule.specs.declared.Loaded.{Loaded}
use Rattle.load_rule.specs.declared.LoadError.{LoadError}
use Rattle.load_rule.specs.declared.LoadError.TheVariants.{Faulty, NoClasses, FewClassRows, FewMemberRows, ShortPool}
use Rattle.load_classes.specs.declared.write.ClassesError.{ClassesError}
use Rattle.load_classes.specs.declared.write.Classes.{Classes}
use Rattle.load_classes.specs.declared.write.ClassesError.TheVariants.{FewRows, ShortPool}
use Rattle.load_members.specs.declared.fill.FillError.{FillError}
use Rattle.load_members.specs.declared.fill.Filled.{Filled}
use Rattle.load_members.specs.declared.fill.FillError.TheVariants.{Faulty, Short}

-- A refusal is no load.
missing_refused : (a b d : Bool) → is_loaded (pick a (Err NoClasses) (pick b (Err FewClassRows) (pick d (Err FewMemberRows) (Err ShortPool)))) ≡ false
missing_refused true b d = refl
missing_refused false true d = refl
missing_refused false false true = refl
missing_refused false false false = refl

refused_not : (s : Result Fates Fault) (c m : ℕ) → is_loaded (refused_of s c m) ≡ false
refused_not (Err r) c m = refl
refused_not (Ok f) c m = missing_refused (eqb f.class 0) (ltb c f.class) (ltb m (f.field + f.method))

module _ (ls : List (List ℕ)) (c m : List (List ℕ)) (p : List ℕ) (c₁ m₁ : List (List ℕ)) (p₁ : List ℕ) where
  -- where something does not fit
  lacking : (length c < length (classes_of ls)) ⊎ ((length m < length (entries_of ls)) ⊎ (length p < length (pool_of ls))) → {r : Result Loaded LoadError} → r ≡ refused_of (scan_of ls) (length c) (length m) →
      IntoBy r ls c m p c₁ m₁ p₁
  lacking h {r} e = record {
    answer = e ∙ decided ls (length c) (length m) (length p) h;
    full = λ t. clash t (ap is_loaded e ∙ refused_not (scan_of ls) (length c) (length m));
  }

  module _ (k : Result Classes ClassesError) (c₂ : List (List ℕ)) (p₂ : List ℕ) (w : ClassesBy k ls c p c₂ p₂) {s : Result Fates Fault} (e : s ≡ scan_of ls) where
    pub into_few_rows : k ≡ Err FewRows → {r : Result Loaded LoadError} → r ≡ refused_of s (length c) (length m) → IntoBy r ls c m p c₁ m₁ p₁
    into_few_rows f g = lacking (inl (rw f at w)) (g ∙ ap (λ x. refused_of x (length c) (length m)) e)

    pub into_short_pool : k ≡ Err ShortPool → {r : Result Loaded LoadError} → r ≡ refused_of s (length c) (length m) → IntoBy r ls c m p c₁ m₁ p₁
    into_short_pool f g =
        let h : length p < length (class_pool (classes_of ls)) = rw f at w in
        lacking (inr (inr (omega (arith, length-append (class_pool (classes_of ls)) (entry_pool (entries_of ls)))))) (g ∙ ap (λ x. refused_of x (length c) (length m)) e)

-- Where all classes are written.
module _ (ls : List (List ℕ)) (c : List (List ℕ)) (p : List ℕ) (k : Result Classes ClassesError) (c₁ : List (List ℕ)) (p₁ : List ℕ) (w : ClassesBy k ls c p c₁ p₁)
    {y : Classes} (e : k ≡ Ok y) where
  at_them : ClassesAt y.count y.«end» ls c p c₁ p₁
  at_them = rw e at w

  size : length (class_rows 0 (classes_of ls)) ≡ y.count
  size = rows_length class_row class_text 0 (classes_of ls) ∙ sym at_them.counted

  rows_are : take y.count c₁ ≡ class_rows 0 (classes_of ls)
  rows_are = ap (λ n. take n c₁) (sym size) ∙ ap (take (length (class_rows 0 (classes_of ls)))) at_them.rows ∙ put_part c 0 (class_rows 0 (classes_of ls)) (omega arith)

  pub into_count : y.count ≤ length c₁
  into_count =
      let fits : 0 + length (class_rows 0 (classes_of ls)) ≤ length c = omega (arith, size, at_them.counted, at_them.room) in
      let n : length c₁ ≡ length c = ap length at_them.rows ∙ length_put c 0 (class_rows 0 (classes_of ls)) fits in
      omega (arith, at_them.counted, at_them.room)

  pub into_below : Below (take y.count c₁) p₁ y.«end»
  into_below = rw rows_are at_them.below

  pub into_few : length c ≤ most_classes → length (take y.count c₁) ≤ most_classes
  into_few h =
      let n = ap length rows_are in
      let r = rows_length class_row class_text 0 (classes_of ls) in
      omega (arith, at_them.room)

  pub into_back : read_back (take y.count c₁) p₁ ≡ classes_of ls
  into_back = ap (λ x. read_back x p₁) rows_are ∙ at_them.back

  pub into_pool : length p ≤ most_pool → length p₁ ≤ most_pool
  into_pool h = let n = written_length at_them.texts in omega arith

  module _ (m m₁ : List (List ℕ)) (p₂ : List ℕ) (d : Result Filled FillError) (v : FilledBy d ls (read_back (take y.count c₁) p₁) y.«end» m p₁ m₁ p₂) where
    over_told : Over (members ls (read_back (take y.count c₁) p₁)) y.«end» m p₁ → (length c < length (classes_of ls)) ⊎ ((length m < length (entries_of ls)) ⊎ (length p < length (pool_of ls)))
    over_told (inl h) = inr (inl (rw into_back at h))
    over_told (inr h) =
        let h₁ : length p₁ < y.«end» + length (entry_pool (entries_of ls)) = rw into_back at h in
        let n = written_length at_them.texts in
        let past = at_them.texts.past in
        inr (inr (omega (arith, length-append (class_pool (classes_of ls)) (entry_pool (entries_of ls)))))

    pub into_short : {s : Result Fates Fault} → d ≡ Err (Short s) → {r : Result Loaded LoadError} → r ≡ refused_of s (length c) (length m) → IntoBy r ls c m p c₁ m₁ p₂
    into_short {s} f g =
        let cut : CutShort s ls (read_back (take y.count c₁) p₁) y.«end» m p₁ = rw f at v in
        lacking ls c m p c₁ m₁ p₂ (over_told cut.over) (g ∙ ap (λ x. refused_of x (length c) (length m)) cut.scanned)

    pub into_short_scan : {s : Result Fates Fault} → d ≡ Err (Short s) → s ≡ scan_of ls
    into_short_scan {s} f = let cut : CutShort s ls (read_back (take y.count c₁) p₁) y.«end» m p₁ = rw f at v in cut.scanned

    pub into_faulty : {x : Fault} → d ≡ Err (Faulty x) → IntoBy (Err (Faulty (fault_at x.number x.line))) ls c m p c₁ m₁ p₂
    into_faulty {x} f =
        let faulty : scan_of ls ≡ Err (fault_at x.number x.line) = rw f at v in
        record { answer = sym (ap (λ o. scanned o ls (lent (length c) (length m) (length p))) faulty); full = λ t. clash t refl }

    module _ {z : Filled} (g : d ≡ Ok z) where
      all : WrittenAll z.fates ls (read_back (take y.count c₁) p₁) y.«end» z.«end» m p₁ m₁ p₂
      all = rw g at v

      held : Holding (entries_of ls) y.«end» z.«end» m p₁ m₁ p₂
      held = rw into_back at all.held

      texts : Written z.«end» p 0 (pool_of ls) p₂
      texts = wrote_then (Ok z.«end») (entry_pool (entries_of ls)) p₂ at_them.texts held.texts

      pub into_names : length p ≤ most_pool → z.«end» ≤ most_pool
      into_names h = omega (arith, texts.past, texts.room)

      pub into_all : {r : Result Loaded LoadError} → r ≡ accepted_of z.fates z.«end» → IntoBy r ls c m p c₁ m₁ p₂
      into_all h =
          let starts : y.«end» ≡ length (class_pool (classes_of ls)) = at_them.texts.past ∙ zero-add (length (class_pool (classes_of ls))) in
          let named : z.«end» ≡ length (pool_of ls) = texts.past ∙ zero-add (length (pool_of ls)) in
          let n = rows_length entry_row entry_text (length (class_pool (classes_of ls))) (entries_of ls) in
          record {
            answer = h ∙ accepted_as ls (length c) (length m) (length p) all.scanned at_them.room held.room (let r = texts.room in omega arith) named;
            full = λ t. record {
              class_room = omega (arith, at_them.room, rows_length class_row class_text 0 (classes_of ls));
              member_room = omega (arith, held.room);
              pool_room = let r = texts.room in omega arith;
              classes = at_them.rows;
              members = held.rows ∙ ap (λ x. put m 0 (entry_rows x (entries_of ls))) starts;
              pool = texts.is;
            };
          }

pub ruleset into =
    (into_few_rows, into_short_pool, into_count, into_below, into_few, into_back, into_pool, into_short, into_short_scan, into_faulty, into_names, into_all, scan_counted, prefix_whole, rules)

-- Few classes: no table of that size, and no index.
pub few_indexed : {rows : List (List ℕ)} {pool : List ℕ} {at : ℕ} → Below rows pool at → Indexed rows pool (replicate 1 0) at
few_indexed b = record { below = b; finds = no_index (λ e. absurd (omega arith)) }

pub ruleset few_filled = (few_indexed, rules)
