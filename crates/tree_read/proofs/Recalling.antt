-- What is remembered stays right when one object more is remembered.
use Rattle.std.proofs.Common.{◌≡◌, inl, inr, ⊎_elim, ℕ, List, [], ◌∷◌, Contains, Result, Ok, Err, OnOk, OnErr, Option, Some, None, IfSome, Bor, refl, sym, ◌∙◌, ap, subst, arith}
use Rattle.std.proofs.lemmas.Map.Lookups.{exact_bytes}
use Rattle.std.specs.declared.cmp.Ordering.{Ordering}
use Rattle.std.specs.declared.cmp.Ordering.TheVariants as order
use Rattle.std.specs.BTreeMap.{insert_entry}
use Rattle.std.specs.BTreeSet.{insert_key}
use Rattle.std.specs.Cmp.Lexicographic.{slice_cmp}
use Rattle.std.specs.Option.{option_copied}
use Rattle.std.specs.Ordering.{match_ordering, nat_cmp}
use Rattle.ost_types.specs.declared.meta.Meta.{Meta}
use Rattle.ost_types.specs.declared.object.Kind.TheVariants as kind
use Rattle.ost_types.specs.declared.object.ObjName.{ObjName}
use Rattle.ost_types.specs.Mode.{IsFolderMode}
use Rattle.ost_forms.specs.declared.dirtree.DirTree.{DirTree}
use Rattle.ost_forms.specs.DirTree.{Entries}
use Rattle.repo_model.specs.Objects.{Store, Has}
use Rattle.repo_model.specs.Trees.{HasEntries, HasMeta, name_of}
use Rattle.tree_read.specs.Remembered.{GainsFile, GainsMeta, GainsTree, IsMore, IsNamed, Memory, OfFolders, Recalls, entries_in, nothing}
use Rattle.tree_read.proofs.Merged.{only, head_or_tail, head_in, tail_in}

none_in : {X : Type 0} (x : X) → Contains [] x → ⊥
none_in x h = absurd (omega (arith, h.1))

-- what is said of the value that was looked up
pub of_copied : {T : Type 0} (P : T → Type 0) (r : Option (Bor T)) (o : Option T) → option_copied r ≡ o → IfSome o P → IfSome r (λ x. P x.now)
of_copied P None o is said = tt
of_copied P (Some x) o is said = subst (λ s. IfSome s P) (sym is) said

-- ---- an entry more in a map

module _ {X : Type 0} (k : List ℕ) (v : X) where
  abbrev Entry : Type 0
  Entry = List ℕ × X

  abbrev with_value : List ℕ → Entry
  with_value x = (x, v)

  abbrev Inserted : List Entry → List Entry
  Inserted es = insert_entry (slice_cmp nat_cmp) es k v

  inserted_by : (e : Entry) (es : List Entry) (o : Ordering) → slice_cmp nat_cmp k e.0 ≡ o → IsMore es (Inserted es) (k, v) → IsMore (e ∷ es) (match_ordering o ((k, v) ∷ e ∷ es) ((e.0, v) ∷ es) (e ∷ Inserted es)) (k, v)
  inserted_by e es order.Less is more y h = ⊎_elim (λ same. inr (sym same)) (λ t. inl t) (head_or_tail (k, v) (e ∷ es) y h)
  inserted_by e es order.Equal is more y h = ⊎_elim (λ same. inr (sym same ∙ ap with_value (sym (exact_bytes k e.0 is)))) (λ t. inl (tail_in e y es t)) (head_or_tail (e.0, v) es y h)
  inserted_by e es order.Greater is more y h =
      ⊎_elim (λ same. inl (subst (λ z. Contains (e ∷ es) z) same (head_in e es))) (λ t. ⊎_elim (λ was. inl (tail_in e y es was)) (λ new. inr new) (more y t)) (head_or_tail e (Inserted es) y h)

  inserted : (es : List Entry) → IsMore es (Inserted es) (k, v)
  inserted [] y h = inr (sym (only (k, v) y h))
  inserted (e ∷ es) y h = inserted_by e es (slice_cmp nat_cmp k e.0) refl (inserted es) y h

  -- where there was no memory, none came
  pub map_more : {A E : Type 0} (old new : List Entry) (r : Result A E) → OnOk r (new ≡ Inserted old) → OnErr r (new ≡ old) → IsMore old new (k, v)
  map_more old new (Ok x) ok err y h = inserted old y (subst (λ l. Contains l y) ok h)
  map_more old new (Err x) ok err y h = inl (subst (λ l. Contains l y) err h)

-- ---- and in a set

module _ (k : List ℕ) where
  abbrev InsertedKey : List (List ℕ) → List (List ℕ)
  InsertedKey ks = insert_key (slice_cmp nat_cmp) ks k

  key_by : (x : List ℕ) (xs : List (List ℕ)) (o : Ordering) → IsMore xs (InsertedKey xs) k → IsMore (x ∷ xs) (match_ordering o (k ∷ x ∷ xs) (x ∷ xs) (x ∷ InsertedKey xs)) k
  key_by x xs order.Less more y h = ⊎_elim (λ same. inr (sym same)) (λ t. inl t) (head_or_tail k (x ∷ xs) y h)
  key_by x xs order.Equal more y h = inl h
  key_by x xs order.Greater more y h =
      ⊎_elim (λ same. inl (subst (λ z. Contains (x ∷ xs) z) same (head_in x xs))) (λ t. ⊎_elim (λ was. inl (tail_in x y xs was)) (λ new. inr new) (more y t)) (head_or_tail x (InsertedKey xs) y h)

  key_inserted : (xs : List (List ℕ)) → IsMore xs (InsertedKey xs) k
  key_inserted [] y h = inr (sym (only k y h))
  key_inserted (x ∷ xs) y h = key_by x xs (slice_cmp nat_cmp k x) (key_inserted xs) y h

  pub set_more : {A E : Type 0} (old new : List (List ℕ)) (r : Result A E) → OnOk r (new ≡ InsertedKey old) → OnErr r (new ≡ old) → IsMore old new k
  set_more old new (Ok x) ok err y h = key_inserted old y (subst (λ l. Contains l y) ok h)
  set_more old new (Err x) ok err y h = inl (subst (λ l. Contains l y) err h)

pub of_folders_more : (old new : List (List ℕ × Meta)) (sum : List ℕ) (m : Meta) → IsMore old new (sum, m) → OfFolders old → IsFolderMode m.mode → OfFolders new
of_folders_more old new sum m more were is x a h =
    ⊎_elim (λ was. were x a was) (λ same. subst (λ (e : List ℕ × Meta). IsFolderMode e.1.mode) (sym same) is) (more (x, a) h)

-- ---- what a store has

module _ (S : Store) (content : ℕ) (tree meta : List ℕ) where
  pub recalls_nothing : Recalls S content tree meta nothing
  recalls_nothing = record {
    trees = λ sum t h. absurd (none_in (sum, t) h);
    metas = λ sum a h. absurd (none_in (sum, a) h);
    files = λ sum h. absurd (none_in sum h);
  }

  module _ (old new : Memory) (r : Recalls S content tree meta old) where
    abbrev TreeIsRight : List ℕ × DirTree → Type 0
    TreeIsRight e = HasEntries S e.0 (entries_in e.1) × IsNamed S tree meta (name_of kind.DirTree e.0)

    abbrev MetaIsRight : List ℕ × Meta → Type 0
    MetaIsRight e = HasMeta S e.0 e.1 × IsNamed S tree meta (name_of kind.DirMeta e.0)

    abbrev FileIsRight : List ℕ → Type 0
    FileIsRight sum = Has S content (name_of kind.File sum) × IsNamed S tree meta (name_of kind.File sum)

    pub recalls_tree : (sum : List ℕ) (t : DirTree) → GainsTree old new sum t → HasEntries S sum (entries_in t) → IsNamed S tree meta (name_of kind.DirTree sum) → Recalls S content tree meta new
    recalls_tree sum t g has named = record {
      trees = λ x u h. ⊎_elim (λ was. r.trees x u was) (λ same. subst TreeIsRight (sym same) (has, named)) (g.trees (x, u) h);
      metas = λ x a h. r.metas x a (subst (λ l. Contains l (x, a)) g.metas h);
      files = λ x h. r.files x (subst (λ l. Contains l x) g.files h);
    }

    pub recalls_meta : (sum : List ℕ) (m : Meta) → GainsMeta old new sum m → HasMeta S sum m → IsNamed S tree meta (name_of kind.DirMeta sum) → Recalls S content tree meta new
    recalls_meta sum m g has named = record {
      trees = λ x u h. r.trees x u (subst (λ l. Contains l (x, u)) g.trees h);
      metas = λ x a h. ⊎_elim (λ was. r.metas x a was) (λ same. subst MetaIsRight (sym same) (has, named)) (g.metas (x, a) h);
      files = λ x h. r.files x (subst (λ l. Contains l x) g.files h);
    }

    pub recalls_file : (sum : List ℕ) → GainsFile old new sum → Has S content (name_of kind.File sum) → IsNamed S tree meta (name_of kind.File sum) → Recalls S content tree meta new
    recalls_file sum g has named = record {
      trees = λ x u h. r.trees x u (subst (λ l. Contains l (x, u)) g.trees h);
      metas = λ x a h. r.metas x a (subst (λ l. Contains l (x, a)) g.metas h);
      files = λ x h. ⊎_elim (λ was. r.files x was) (λ same. subst FileIsRight (sym same) (has, named)) (g.files x h);
    }

-- ---- and another store, which has all of it too

module _ (S T : Store) (content : ℕ) (tree meta : List ℕ) where
  pub recalls_over : ((sum : List ℕ) (e : Entries) → IsNamed S tree meta (name_of kind.DirTree sum) → HasEntries S sum e → HasEntries T sum e)
      → ((sum : List ℕ) (a : Meta) → IsNamed S tree meta (name_of kind.DirMeta sum) → HasMeta S sum a → HasMeta T sum a)
      → ((sum : List ℕ) → IsNamed S tree meta (name_of kind.File sum) → Has S content (name_of kind.File sum) → Has T content (name_of kind.File sum))
      → ((o : ObjName) → IsNamed S tree meta o → IsNamed T tree meta o) → (m : Memory) → Recalls S content tree meta m → Recalls T content tree meta m
  recalls_over entries metas files named m r = record {
    trees = λ sum t h. (let was = r.trees sum t h in (entries sum (entries_in t) was.1 was.0, named (name_of kind.DirTree sum) was.1));
    metas = λ sum a h. (let was = r.metas sum a h in (metas sum a was.1 was.0, named (name_of kind.DirMeta sum) was.1));
    files = λ sum h. (let was = r.files sum h in (files sum was.1 was.0, named (name_of kind.File sum) was.1));
  }

-- ---- nothing comes to a memory that stays

module _ (old new : Memory) (same : new ≡ old) where
  stays : {X : Type 0} (part : Memory → List X) (x : X) → IsMore (part old) (part new) x
  stays part x y h = inl (subst (λ m. Contains (part m) y) same h)

  pub tree_stays : (sum : List ℕ) (t : DirTree) → GainsTree old new sum t
  tree_stays sum t = record { trees = stays (λ m. m.trees) (sum, t); metas = ap (λ m. m.metas) same; files = ap (λ m. m.files) same }

  pub meta_stays : (sum : List ℕ) (a : Meta) → GainsMeta old new sum a
  meta_stays sum a = record { trees = ap (λ m. m.trees) same; metas = stays (λ m. m.metas) (sum, a); files = ap (λ m. m.files) same }
