-- From the names in a folder to the objects that they are.
use Rattle.std.proofs.Common.{◌≡◌, ◌≢◌, ◌⊎◌, inl, inr, ⊎_elim, ℕ, ◌≤◌, ◌<◌, ◌+◌, arith, true, false, refl, sym, ◌∙◌, ap, subst, List, [], ◌∷◌, ◌++◌, length, take, drop, get_or, Some, None, zero, suc}
use Rattle.std.specs.Prelude.{Contains, slice_index}
use Rattle.std.specs.Ordering.{match_ordering}
use Rattle.std.specs.declared.cmp.Ordering.{Ordering}
use Rattle.std.specs.declared.cmp.Ordering.TheVariants.{Less, Equal, Greater}
use Rattle.std.specs.BTreeSet.{insert_key}
use Rattle.std.proofs.Math.Seq.{take-suc, take-append_seam, drop-append_seam}
use Rattle.std.proofs.lemmas.List.{take_all, take-append-drop, length-drop, length-append}
use Rattle.std.specs.Prelude.{IfOk, IfSome, Option, Result, Ok, Err}
use Rattle.ost_types.specs.declared.object.Kind.{Kind}
use Rattle.ost_types.specs.declared.object.Kind.TheVariants.{Commit, DirTree, DirMeta, File}
use Rattle.std.proofs.lemmas.List.Elements.{Contains-append_right, Contains-append_cases}
use Rattle.hex.specs.Hex.{IsBytes, encode_with}
use Rattle.ost_types.specs.Csum.{hex_of}
use Rattle.ost_types.specs.Path.{Name, under}
use Rattle.ost_types.specs.declared.object.ObjName.{ObjName}
use Rattle.ost_types.proofs.HexSums.{hex_of-injective, IsHexSum-hex_of}
use Rattle.fs_trait.specs.declared.types.FsErr.{FsErr}
use Rattle.fs_trait.specs.declared.types.FsErr.TheVariants.{Failed, Exists, Missing, NotFolder, NotEmpty, NoMemory}
use Rattle.fs_trait.specs.declared.types.Value.TheVariants.{Absent}
use Rattle.fs_trait.specs.View.{Disk}
use Rattle.fs_trait.specs.Image.{IsTree, is_folder}
use Rattle.fs_trait.specs.Effect.{Answered, IsListing, no_folder}
use Rattle.fs_trait.proofs.Refusals.{no_folder-there}
use Rattle.fs_trait.proofs.Images.{folder_or_not}
use Rattle.repo_layout.specs.Paths.{ending, objects_folder_path, object_path}
use Rattle.repo_layout.specs.RefFile.{IsSum}
use Rattle.repo_model.specs.Objects.{path_of}
use Rattle.obj_store.proofs.NameOrder.{equal_names, same_cmp}
use Rattle.obj_store.specs.Listing.{IsGone, IsList, IsNamedBy, AreObjects, file_name, name_cmp}
use Rattle.std.specs.List.Sorted.{IsStrictlySortedBy}
use Rattle.ost_types.specs.contracts.object.ObjNameOrd.TheImpl as ord

module _ {X : Type 0} where
  one_in : (x y : X) → Contains (y ∷ []) x → x ≡ y
  one_in x y (zero, less, is) = sym is
  one_in x y (suc k, less, is) = absurd (omega (arith, less))

  head_in : (x : X) (xs : List X) → Contains (x ∷ xs) x
  head_in x xs = (0, omega arith, refl)

  tail_in : (x y : X) (xs : List X) → Contains xs x → Contains (y ∷ xs) x
  tail_in x y xs has = Contains-append_right (y ∷ []) xs x has

  cons_cases : (x y : X) (xs : List X) → Contains (y ∷ xs) x → (x ≡ y) ⊎ Contains xs x
  cons_cases x y xs has = ⊎_elim (λ a. inl (one_in x y a)) (λ b. inr b) (Contains-append_cases (y ∷ []) xs x has)

  none_in : (x : X) → Contains {X = X} [] x → ⊥
  none_in x (k, less, is) = omega (arith, less)

  -- the first so many and one more
  taken_more : (xs : List X) (i : ℕ) (x y : X) → i < length xs → y ≡ get_or xs i y → Contains (take (i + 1) xs) x → Contains (take i xs) x ⊎ (x ≡ y)
  taken_more xs i x y less is has =
      let next : i + 1 ≡ suc i = omega arith in
      let more : take (i + 1) xs ≡ take i xs ++ y ∷ [] = ap (λ n. take n xs) next ∙ take-suc xs i y less ∙ ap (λ z. take i xs ++ z ∷ []) (sym is) in
      ⊎_elim (λ a. inl a) (λ b. inr (one_in x y b)) (Contains-append_cases (take i xs) (y ∷ []) x (subst (λ l. Contains l x) more has))

  -- what a set has after a key came to it
  module _ (cmp : X → X → Ordering) (equal : (a b : X) → cmp a b ≡ Equal → a ≡ b) where
    insert_has : (ks : List X) (k : X) → Contains (insert_key cmp ks k) k
    insert_has [] k = head_in k []
    insert_has (x ∷ ks) k = by (insert_has ks k) (cmp k x) refl
      where
        by : Contains (insert_key cmp ks k) k → (o : Ordering) → cmp k x ≡ o → Contains (match_ordering o (k ∷ x ∷ ks) (x ∷ ks) (x ∷ insert_key cmp ks k)) k
        by rest Less e = head_in k (x ∷ ks)
        by rest Equal e = subst (Contains (x ∷ ks)) (sym (equal k x e)) (head_in x ks)
        by rest Greater e = tail_in k x (insert_key cmp ks k) rest

    insert_kept : (ks : List X) (k p : X) → Contains ks p → Contains (insert_key cmp ks k) p
    insert_kept [] k p has = tail_in p k [] has
    insert_kept (x ∷ ks) k p has = by (λ a. insert_kept ks k p a) (cmp k x)
      where
        by : (Contains ks p → Contains (insert_key cmp ks k) p) → (o : Ordering) → Contains (match_ordering o (k ∷ x ∷ ks) (x ∷ ks) (x ∷ insert_key cmp ks k)) p
        by rest Less = tail_in p k (x ∷ ks) has
        by rest Equal = has
        by rest Greater = ⊎_elim (λ e. subst (Contains (x ∷ insert_key cmp ks k)) (sym e) (head_in x (insert_key cmp ks k))) (λ a. tail_in p x (insert_key cmp ks k) (rest a)) (cons_cases p x ks has)

    insert_only : (ks : List X) (k p : X) → Contains (insert_key cmp ks k) p → Contains ks p ⊎ (p ≡ k)
    insert_only [] k p has = ⊎_elim (λ e. inr e) (λ a. inl a) (cons_cases p k [] has)
    insert_only (x ∷ ks) k p has = by (λ a. insert_only ks k p a) (cmp k x) has
      where
        by : (Contains (insert_key cmp ks k) p → Contains ks p ⊎ (p ≡ k)) → (o : Ordering) → Contains (match_ordering o (k ∷ x ∷ ks) (x ∷ ks) (x ∷ insert_key cmp ks k)) p → Contains (x ∷ ks) p ⊎ (p ≡ k)
        by rest Less has = ⊎_elim (λ e. inr e) (λ a. inl a) (cons_cases p k (x ∷ ks) has)
        by rest Equal has = inl has
        by rest Greater has = ⊎_elim (λ e. inl (subst (Contains (x ∷ ks)) (sym e) (head_in x ks))) (λ a. ⊎_elim (λ b. inl (tail_in p x ks b)) (λ e. inr e) (rest a)) (cons_cases p x (insert_key cmp ks k) has)

-- Of the first so many names the objects were found.
pub record AreFound (first i : ℕ) (names : List Name) (found : List ObjName) : Type 0 where
  pub each : (o : ObjName) → Contains found o → IsNamedBy first names o
  pub all : (o : ObjName) → IsSum o.csum → take 1 o.csum ≡ first ∷ [] → Contains (take i names) (file_name o) → Contains found o

pub none_found : (first : ℕ) (names : List Name) (found : List ObjName) → found ≡ [] → AreFound first 0 names found
none_found first names found empty = record {
  each = λ o has. absurd (none_in o (subst (λ l. Contains l o) empty has));
  all = λ o sum begins has. absurd (none_in (file_name o) has);
}

module _ (first i : ℕ) (names : List Name) (x : Name) (less : i < length names) (is : x ≡ get_or names i x) (found : List ObjName) (so_far : AreFound first i names found) where
  among : (o : ObjName) → file_name o ≡ x → Contains names (file_name o)
  among o e = (i, less, subst (λ y. get_or names i y ≡ y) (sym e) (sym is))

  pub one_more : (cmp : ObjName → ObjName → Ordering) → ((a b : ObjName) → cmp a b ≡ Equal → a ≡ b) → (o : ObjName) → IsSum o.csum × (take 1 o.csum ≡ first ∷ []) × (x ≡ file_name o)
      → ((p : ObjName) → IsSum p.csum → take 1 p.csum ≡ first ∷ [] → x ≡ file_name p → p ≡ o) → AreFound first (i + 1) names (insert_key cmp found o)
  one_more cmp equal o named only = record {
    each = λ p has. ⊎_elim
        (λ was. so_far.each p was)
        (λ e. subst (IsNamedBy first names) (sym e) (record { sum = named.0; begins = named.1; among = among o (sym named.2) }))
        (insert_only cmp equal found o p has);
    all = λ p sum begins has. ⊎_elim
        (λ was. insert_kept cmp equal found o p (so_far.all p sum begins was))
        (λ e. subst (Contains (insert_key cmp found o)) (sym (only p sum begins (sym e))) (insert_has cmp equal found o))
        (taken_more names i (file_name p) x less is has);
  }

  pub one_less : ((p : ObjName) → IsSum p.csum → take 1 p.csum ≡ first ∷ [] → x ≡ file_name p → ⊥) → AreFound first (i + 1) names found
  one_less none = record {
    each = so_far.each;
    all = λ p sum begins has. ⊎_elim
        (λ was. so_far.all p sum begins was)
        (λ e. absurd (none p sum begins (sym e)))
        (taken_more names i (file_name p) x less is has);
  }

pub all_found : (first i : ℕ) (names : List Name) (found : List ObjName) → length names ≤ i → AreFound first i names found → IsStrictlySortedBy name_cmp found → AreObjects first names found
all_found first i names found whole are sorted = record {
  ascending = sorted;
  each = are.each;
  all = λ o named. are.all o named.sum named.begins (subst (λ l. Contains l (file_name o)) (sym (take_all i names whole)) named.among);
}

pub all_found_result : (first i : ℕ) (names : List Name) (found : List ObjName) → length names ≤ i → AreFound first i names found → IsStrictlySortedBy name_cmp found
    → (all : List Name) → names ≡ all → {T E : Type 0} → (items : T → List ObjName) (r : Result T E) → IfOk r (λ t. items t ≡ found) → IfOk r (λ t. AreObjects first all (items t))
all_found_result first i names found whole are sorted all same items (Ok t) is = subst (λ ns. AreObjects first ns (items t)) same (subst (AreObjects first names) (sym is) (all_found first i names found whole are sorted))
all_found_result first i names found whole are sorted all same items (Err e) is = tt

pub found_equal : (a b : ObjName) → (ord.cmp-value).it a b ≡ Equal → a ≡ b
found_equal a b e = equal_names a b (subst (λ (c : ObjName → ObjName → Ordering). c a b ≡ Equal) same_cmp e)

pub sorted_names : (ks : List ObjName) → IsStrictlySortedBy (ord.cmp-value).it ks → IsStrictlySortedBy name_cmp ks
sorted_names ks sorted = subst (λ c. IsStrictlySortedBy c ks) same_cmp sorted

-- the first two digits of a sum are those of its first byte
two_digits : (sum : List ℕ) (first : ℕ) → take 1 sum ≡ first ∷ [] → take 2 (hex_of sum) ≡ hex_of (first ∷ [])
unfolding encode_with
two_digits [] first e = let n : [] ≡ first ∷ [] = e in cc
two_digits (x ∷ rest) first e = let h : x ≡ first = cc in rw h refl

front_byte : (sum : List ℕ) (first : ℕ) → IsBytes sum → first < 256 → length sum ≡ 32 → take 2 (hex_of sum) ≡ hex_of (first ∷ []) → take 1 sum ≡ first ∷ []
unfolding encode_with
front_byte [] first bytes less whole e = absurd (omega (arith, whole))
front_byte (x ∷ rest) first bytes less whole e =
    let one : (y : ℕ) → y < 256 → IsBytes (y ∷ []) = one_byte in
    hex_of-injective (x ∷ []) (first ∷ []) (one x (bytes 0)) (one first less) e
  where
    one_byte : (y : ℕ) → y < 256 → IsBytes (y ∷ [])
    one_byte y small zero = small
    one_byte y small (suc k) = omega arith

-- the path of an object, by its file's name
pub path_from_name : (o : ObjName) (first : ℕ) (some : List ℕ) → take 1 o.csum ≡ first ∷ [] → take 1 some ≡ first ∷ [] → path_of o ≡ under (objects_folder_path some) (file_name o)
unfolding object_path objects_folder_path
path_from_name o first some begins also = rw (two_digits o.csum first begins ∙ sym (two_digits some first also)) refl

none_sorted : IsStrictlySortedBy name_cmp []
unfolding IsStrictlySortedBy
none_sorted = tt

module _ (d : Disk) (tree : IsTree d) (first : ℕ) (some : List ℕ) (also : take 1 some ≡ first ∷ []) where
  -- where the folder is listed
  pub listed : (names : List Name) (found : List ObjName) → IsListing d (objects_folder_path some) names → AreObjects first names found → IsList d first found
  listed names found listing are = record {
    ascending = are.ascending;
    here = λ o has.
        let n = are.each o has in
        record { sum = n.sum; begins = n.begins; there = subst (λ p. d.at p ≢ Absent) (sym (path_from_name o first some n.begins also)) (listing.there (file_name o) n.among) };
    all = λ o h. are.all o (record { sum = h.sum; begins = h.begins; among = listing.all (file_name o) (subst (λ p. d.at p ≢ Absent) (path_from_name o first some h.begins also) h.there) });
  }

  -- where it isn't there
  unlisted : (e : FsErr) → no_folder (objects_folder_path some) d ≡ Some e → (found : List ObjName) → found ≡ [] → IsList d first found
  unlisted e refused found empty = record {
    ascending = subst (IsStrictlySortedBy name_cmp) (sym empty) none_sorted;
    here = λ o has. absurd (none_in o (subst (λ l. Contains l o) empty has));
    all = λ o h. absurd (h.there (subst (λ p. d.at p ≡ Absent) (sym (path_from_name o first some h.begins also)) (tree.folders (objects_folder_path some) (file_name o) (not_folder (folder_or_not _)))));
  }
    where
      not_folder : (is_folder (d.at (objects_folder_path some)) ≡ true) ⊎ (is_folder (d.at (objects_folder_path some)) ≡ false) → is_folder (d.at (objects_folder_path some)) ≡ false
      not_folder (inl folder) = let n : None ≡ Some e = sym (no_folder-there d tree (objects_folder_path some) folder) ∙ refused in cc
      not_folder (inr no_) = no_

  refused_so : {X : Type 0} (P : X → Type 0) (e : FsErr) → Answered (no_folder (objects_folder_path some) d) P (Err e) → IsGone e → no_folder (objects_folder_path some) d ≡ Some e
  refused_so P Missing answer gone = answer
  refused_so P NotFolder answer gone = answer
  refused_so P Failed answer gone = absurd gone
  refused_so P NoMemory answer gone = absurd gone
  refused_so P Exists answer gone = absurd gone
  refused_so P NotEmpty answer gone = absurd gone

  pub unlisted_result : {X T : Type 0} (P : X → Type 0) (e : FsErr) → Answered (no_folder (objects_folder_path some) d) P (Err e)
      → (items : T → List ObjName) (r : Result T FsErr) → IfOk r (λ t. (items t ≡ []) × IsGone e) → IfOk r (λ t. IsList d first (items t))
  unlisted_result P e answer items (Ok t) none = unlisted e (refused_so P e answer none.1) (items t) none.0
  unlisted_result P e answer items (Err f) none = tt

digits_whole : (sum : List ℕ) → IsSum sum → length (drop 2 (hex_of sum)) ≡ 62
digits_whole sum is = omega (arith, length-drop 2 (hex_of sum), (IsHexSum-hex_of sum is.whole is.bytes).whole)

one_byte_text : (first : ℕ) → length (hex_of (first ∷ [])) ≡ 2
unfolding encode_with
one_byte_text first = refl

-- the sum of a text that begins with the digits of a byte
pub begins_so : (first : ℕ) (digits : List ℕ) (r : Option (List ℕ)) → first < 256 → IfSome r IsSum → IfSome r (λ c. hex_of c ≡ hex_of (first ∷ []) ++ digits) → IfSome r (λ c. take 1 c ≡ first ∷ [])
begins_so first digits None less sum text = tt
begins_so first digits (Some c) less sum text =
    front_byte c first sum.bytes less sum.whole
    (ap (take 2) text ∙ ap (λ n. take n (hex_of (first ∷ []) ++ digits)) (sym (one_byte_text first)) ∙ take-append_seam (hex_of (first ∷ [])) digits)

pub rest_so : (first : ℕ) (digits : List ℕ) (r : Option (List ℕ)) → IfSome r (λ c. hex_of c ≡ hex_of (first ∷ []) ++ digits) → IfSome r (λ c. digits ≡ drop 2 (hex_of c))
rest_so first digits None text = tt
rest_so first digits (Some c) text =
    sym (ap (drop 2) text ∙ ap (λ n. drop n (hex_of (first ∷ []) ++ digits)) (sym (one_byte_text first)) ∙ drop-append_seam (hex_of (first ∷ [])) digits)

pub text_so : (sum : List ℕ) (first : ℕ) (digits : List ℕ) → take 1 sum ≡ first ∷ [] → digits ≡ drop 2 (hex_of sum) → hex_of sum ≡ hex_of (first ∷ []) ++ digits
text_so sum first digits begins rest = sym (take-append-drop 2 (hex_of sum)) ∙ ap (λ x. x ++ drop 2 (hex_of sum)) (two_digits sum first begins) ∙ ap (λ x. hex_of (first ∷ []) ++ x) (sym rest)

-- the parts of a file's name
module _ (o : ObjName) (sum : IsSum o.csum) (file : List ℕ) (is : file ≡ file_name o) where
  pub file_long : 62 ≤ length file
  file_long = omega (arith, ap length is, length-append (drop 2 (hex_of o.csum)) (ending o.kind), digits_whole o.csum sum)

  pub file_front : take 62 file ≡ drop 2 (hex_of o.csum)
  file_front = ap (take 62) is ∙ ap (λ n. take n (file_name o)) (sym (digits_whole o.csum sum)) ∙ take-append_seam (drop 2 (hex_of o.csum)) (ending o.kind)

  pub file_back : drop 62 file ≡ ending o.kind
  file_back = ap (drop 62) is ∙ ap (λ n. drop n (file_name o)) (sym (digits_whole o.csum sum)) ∙ drop-append_seam (drop 2 (hex_of o.csum)) (ending o.kind)

-- an ending is of one kind
pub one_kind : (k l : Kind) → ending k ≡ ending l → k ≡ l
one_kind Commit Commit e = refl
one_kind Commit DirTree e = let n : slice_index (ending Commit) 1 ≡ slice_index (ending DirTree) 1 = ap (λ l. slice_index l 1) e in absurd (omega (arith, n))
one_kind Commit DirMeta e = let n : slice_index (ending Commit) 1 ≡ slice_index (ending DirMeta) 1 = ap (λ l. slice_index l 1) e in absurd (omega (arith, n))
one_kind Commit File e = let n : slice_index (ending Commit) 1 ≡ slice_index (ending File) 1 = ap (λ l. slice_index l 1) e in absurd (omega (arith, n))
one_kind DirTree Commit e = let n : slice_index (ending DirTree) 1 ≡ slice_index (ending Commit) 1 = ap (λ l. slice_index l 1) e in absurd (omega (arith, n))
one_kind DirTree DirTree e = refl
one_kind DirTree DirMeta e = let n : slice_index (ending DirTree) 4 ≡ slice_index (ending DirMeta) 4 = ap (λ l. slice_index l 4) e in absurd (omega (arith, n))
one_kind DirTree File e = let n : slice_index (ending DirTree) 1 ≡ slice_index (ending File) 1 = ap (λ l. slice_index l 1) e in absurd (omega (arith, n))
one_kind DirMeta Commit e = let n : slice_index (ending DirMeta) 1 ≡ slice_index (ending Commit) 1 = ap (λ l. slice_index l 1) e in absurd (omega (arith, n))
one_kind DirMeta DirTree e = let n : slice_index (ending DirMeta) 4 ≡ slice_index (ending DirTree) 4 = ap (λ l. slice_index l 4) e in absurd (omega (arith, n))
one_kind DirMeta DirMeta e = refl
one_kind DirMeta File e = let n : slice_index (ending DirMeta) 1 ≡ slice_index (ending File) 1 = ap (λ l. slice_index l 1) e in absurd (omega (arith, n))
one_kind File Commit e = let n : slice_index (ending File) 1 ≡ slice_index (ending Commit) 1 = ap (λ l. slice_index l 1) e in absurd (omega (arith, n))
one_kind File DirTree e = let n : slice_index (ending File) 1 ≡ slice_index (ending DirTree) 1 = ap (λ l. slice_index l 1) e in absurd (omega (arith, n))
one_kind File DirMeta e = let n : slice_index (ending File) 1 ≡ slice_index (ending DirMeta) 1 = ap (λ l. slice_index l 1) e in absurd (omega (arith, n))
one_kind File File e = refl
