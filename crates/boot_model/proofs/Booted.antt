-- A disk that boots some items has their list, however their entries are read.
use Rattle.std.proofs.Common.{◌≡◌, ◌⊎◌, inl, inr, ⊎_elim, ℕ, suc, ◌+◌, ◌-◌, ◌<◌, ◌≤◌, arith, List, [], ◌∷◌, ◌++◌, length, map, get_or, refl, sym, ◌∙◌, ap, subst, append-nil, append_assoc, length-append}
use Rattle.std.specs.List.{AllByRecursion, Contains}
use Rattle.std.specs.List.Sorted.{IsStrictlySortedBy}
use Rattle.std.specs.Ordering.{nat_cmp}
use Rattle.std.specs.Cmp.{nat_cmp_is}
use Rattle.std.specs.declared.cmp.Ordering.TheVariants.{Less}
use Rattle.std.proofs.lemmas.List.Elements.{All-from_recursion}
use Rattle.std.proofs.lemmas.List.{get_or_default}
use Rattle.std.proofs.lemmas.Bool.Decides.{leb_tells}
use Rattle.ost_types.specs.Path.{Name}
use Rattle.fs_trait.specs.View.{Disk}
use Rattle.boot_model.specs.declared.item.BootItem.{BootItem}
use Rattle.boot_model.specs.Items.{IsAt, link_number}
use Rattle.boot_model.specs.Entries.{entry_text}
use Rattle.boot_model.specs.Listing.{Boots, HasEntry, IsList, IsRow, Reading, Row, member_of, names_link}

last_of : {X : Type 0} (front : List X) (x : X) (rest : List X) (d : X) → get_or (front ++ x ∷ rest) (length front) d ≡ x
last_of [] x rest d = refl
last_of (y ∷ front) x rest d = last_of front x rest d

-- each item's entry is read as its version, its words, and the word that names its link
abbrev pub ReadsEach : Reading → ℕ → List BootItem → Type 0
ReadsEach R loader items = (i : ℕ) (item : BootItem) → IsAt items i item
    → R (entry_text loader items i item) (length items - i) (item.kargs ++ (names_link loader item.id.os item.kernel.bootcsum (link_number items i item) ∷ []))

module _ (R : Reading) (d : Disk) (items : List BootItem) (boots : Boots d items) (reads : ReadsEach R boots.loader items) where
  here : (front : List BootItem) (x : BootItem) (rest : List BootItem) → items ≡ front ++ x ∷ rest → IsAt items (length front) x
  here front x rest is =
      let n : length items ≡ length front + suc (length rest) = ap length is ∙ length-append front (x ∷ rest) in
      (omega (arith, n), ap (λ (l : List BootItem). get_or l (length front) x) is ∙ last_of front x rest x)

  abbrev row : (i : ℕ) (x : BootItem) → IsAt items i x → Row
  row i x at = record { file = (boots.entries.each i x at).0; version = length items - i; member = member_of x }

  row_is : (i : ℕ) (x : BootItem) (at : IsAt items i x) → IsRow R d boots.loader (row i x at)
  row_is i x at = record {
    bytes = entry_text boots.loader items i x;
    entry = (boots.entries.each i x at).1;
    before = x.kargs;
    after = [];
    os = x.id.os;
    bootcsum = x.kernel.bootcsum;
    number = link_number items i x;
    reads = reads i x at;
    kargs = sym (append-nil x.kargs);
    leads = boots.leads i x at;
  }

  next : (front : List BootItem) (x : BootItem) (rest : List BootItem) → items ≡ front ++ x ∷ rest → items ≡ (front ++ x ∷ []) ++ rest
  next front x rest is = is ∙ sym (append_assoc front (x ∷ []) rest)

  abbrev rows : (front rest : List BootItem) → items ≡ front ++ rest → List Row
  rows front [] is = []
  rows front (x ∷ rest) is = row (length front) x (here front x rest is) ∷ rows (front ++ x ∷ []) rest (next front x rest is)

  each : (front rest : List BootItem) (is : items ≡ front ++ rest) → AllByRecursion (IsRow R d boots.loader) (rows front rest is)
  each front [] is = tt
  each front (x ∷ rest) is = (row_is (length front) x (here front x rest is), each (front ++ x ∷ []) rest (next front x rest is))

  members : (front rest : List BootItem) (is : items ≡ front ++ rest) → map (λ (r : Row). r.member) (rows front rest is) ≡ map member_of rest
  members front [] is = refl
  members front (x ∷ rest) is = ap (λ l. member_of x ∷ l) (members (front ++ x ∷ []) rest (next front x rest is))

  -- all later versions are less
  less : (k : ℕ) (front rest : List BootItem) (is : items ≡ front ++ rest) → k < length front → AllByRecursion (λ v. nat_cmp v (length items - k) ≡ Less) (map (λ (r : Row). r.version) (rows front rest is))
  less k front [] is before = tt
  less k front (x ∷ rest) is before =
      let n : length items ≡ length front + suc (length rest) = ap length is ∙ length-append front (x ∷ rest) in
      let lower : length items - length front < length items - k = omega (arith, n, before) in
      let m : length (front ++ x ∷ []) ≡ length front + 1 = length-append front (x ∷ []) in
      (sym (nat_cmp_is (length items - length front) (length items - k) Less lower), less k (front ++ x ∷ []) rest (next front x rest is) (omega (arith, m, before)))

  falling : (front rest : List BootItem) (is : items ≡ front ++ rest) → IsStrictlySortedBy (λ a b. nat_cmp b a) (map (λ (r : Row). r.version) (rows front rest is))
  unfolding IsStrictlySortedBy
  falling front [] is = tt
  falling front (x ∷ rest) is =
      let m : length (front ++ x ∷ []) ≡ length front + 1 = length-append front (x ∷ []) in
      (less (length front) (front ++ x ∷ []) rest (next front x rest is) (omega (arith, m)), falling (front ++ x ∷ []) rest (next front x rest is))

  -- the file of each member is there
  has : (front rest : List BootItem) (is : items ≡ front ++ rest) (i : ℕ) (x : BootItem) (at : IsAt items i x) → length front ≤ i → (file : Name)
      → ((k : ℕ) (b : BootItem) (there : IsAt items k b) → k ≡ i → (row k b there).file ≡ file) → Contains (map (λ (r : Row). r.file) (rows front rest is)) file
  has front [] is i x at from file named =
      let n : length items ≡ length front + 0 = ap length is ∙ length-append front [] in absurd (omega (arith, n, from, at.0))
  has front (y ∷ rest) is i x at from file named = by (⊎_elim (λ q. inl q.1) (λ q. inr q.1) (leb_tells i (length front))) (λ later. has (front ++ y ∷ []) rest (next front y rest is) i x at later file named)
    where
      by : (i ≤ length front) ⊎ (length front < i) → (length (front ++ y ∷ []) ≤ i → Contains (map (λ (r : Row). r.file) (rows (front ++ y ∷ []) rest (next front y rest is))) file) → Contains (map (λ (r : Row). r.file) (rows front (y ∷ rest) is)) file
      by (inl le) more = (0, omega arith, named (length front) y (here front y rest is) (omega (arith, le, from)))
      by (inr later) more =
          let m : length (front ++ y ∷ []) ≡ length front + 1 = length-append front (y ∷ []) in
          let r = more (omega (arith, m, later)) in
          (suc r.0, omega (arith, r.1), r.2)

  same_text : (i k : ℕ) (x b : BootItem) → IsAt items i x → IsAt items k b → k ≡ i → entry_text boots.loader items k b ≡ entry_text boots.loader items i x
  same_text i k x b at there is =
      let one : get_or items i b ≡ b = subst (λ j. get_or items j b ≡ b) is there.1 in
      let same : b ≡ x = sym one ∙ get_or_default items i b x at.0 ∙ at.1 in
      subst (λ j. entry_text boots.loader items j b ≡ entry_text boots.loader items i x) (sym is) (ap (entry_text boots.loader items i) same)

  all : (file : Name) (bytes : List ℕ) → HasEntry d boots.loader file bytes → Contains (map (λ (r : Row). r.file) (rows [] items refl)) file
  all file bytes entry =
      let o = boots.entries.only file bytes entry in
      has [] items refl o.0 o.1 o.2 (omega arith) file
      (λ k b there is. boots.entries.once (row k b there).file file bytes (subst (HasEntry d boots.loader (row k b there).file) (same_text o.0 k o.1 b o.2 there is ∙ sym o.3) (boots.entries.each k b there).1) entry)

  pub boots_list : IsList R d (map member_of items)
  boots_list = inr (
    boots.loader,
    boots.selects,
    rows [] items refl,
    record { each = All-from_recursion (IsRow R d boots.loader) (rows [] items refl) (each [] items refl); all = all; falling = falling [] items refl },
    sym (members [] items refl),
  )
