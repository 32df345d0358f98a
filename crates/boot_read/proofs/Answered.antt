-- Of one disk there is one answer.
use Rattle.std.proofs.Common.{◌≡◌, ◌⊎◌, inl, inr, ⊎_elim, ℕ, zero, suc, ◌+◌, ◌<◌, ◌≤◌, ◌^◌, ◌++◌, codes, List, [], ◌∷◌, map, length, Result, Ok, Err, refl, sym, ◌∙◌, ap, subst, arith}
use Rattle.std.specs.Prelude.{Contains}
use Rattle.std.specs.Cmp.Lexicographic.{slice_cmp}
use Rattle.std.specs.FinMap.{nat_cmp-IsAntisymmetric, slice_cmp-IsAntisymmetric}
use Rattle.std.specs.List.{AllByRecursion}
use Rattle.std.specs.List.Sorted.{IsStrictlySortedBy}
use Rattle.std.specs.Ordering.{nat_cmp}
use Rattle.std.specs.declared.cmp.Ordering.{Ordering}
use Rattle.std.specs.declared.cmp.Ordering.TheVariants.{Less, Equal, Greater}
use Rattle.std.proofs.lemmas.Cmp.{nat_cmp_total, nat_list_cmp_total, tied_itself}
use Rattle.std.specs.Fmt.{decimal}
use Rattle.std.proofs.lemmas.Fmt.{decimal_injective}
use Rattle.std.proofs.lemmas.List.{append_cancel_left, length-map}
use Rattle.bls_entry.specs.declared.entry.BlsEntry.{BlsEntry}
use Rattle.std.proofs.lemmas.List.Elements.{All-contains, All-from_recursion}
use Rattle.ost_types.specs.Path.{Name, Path}
use Rattle.fs_trait.specs.Seen.{Vacant, Symlink, shows}
use Rattle.fs_trait.specs.View.{Disk}
use Rattle.repo_layout.specs.BootPaths.{boot_link_path, entry_path, loader_path}
use Rattle.repo_layout.specs.Fixed.{entries_path}
use Rattle.boot_model.specs.Entries.{boot_target, loader_target}
use Rattle.boot_model.specs.Listing.{IsLinkTo, Selects}
use Rattle.boot_read.specs.declared.fault.EntryFault.{EntryFault}
use Rattle.boot_read.specs.declared.fault.ListFault.{ListFault}
use Rattle.boot_read.specs.declared.fault.ListFault.TheVariants.{BadLink, TooMany, BadEntry, NoDeployment, Fs, NoMemory}
use Rattle.boot_read.specs.declared.row.BootRow.{BootRow}
use Rattle.boot_read.specs.Entries.{IsEntry, IsRead, IsUnread, other_words}
use Rattle.boot_read.specs.Faults.{AnsweredOnce, Answers, AreLinked, AreRead, HasFolders, IsOfDisk, NoFolder, NoLoader}
use Rattle.boot_read.specs.Faults.IsFirstBadLink.{OfLoader, OfVersion, OfEntry}
use Rattle.boot_read.specs.Links.{HasSub, IsItemLink, IsNamed, LeadsOn, item_link}
use Rattle.boot_read.specs.Rows.{AreBootRows, IsBootRow}
use Rattle.boot_read.specs.Rules.{AreFew, AreMany, ComesBefore, HasOwn, IsBadItem, IsFirst, Lacks}
use Rattle.boot_read.proofs.Lists.{before_self, mapped}
use Rattle.boot_read.proofs.Unique.{leads_once, named_once, not_unread, read_once, same_path, unread_once}

abbrev Answer : Type 0
Answer = Result (List BootRow) ListFault

-- ---- lists of the same elements in one order

abbrev Sorted : {X : Type 0} → (X → X → Type 0) → List X → Type 0
Sorted R [] = Unit {0}
Sorted R (x ∷ xs) = AllByRecursion (R x) xs × Sorted R xs

head_or : {X : Type 0} (x y : X) (xs : List X) → Contains (x ∷ xs) y → (x ≡ y) ⊎ Contains xs y
head_or x y xs (zero, lt, e) = inl e
head_or x y xs (suc k, lt, e) = inr (k, omega (arith, lt), e)

first_in : {X : Type 0} (x : X) (xs : List X) → Contains (x ∷ xs) x
first_in x xs = (0, omega arith, refl)

later_in : {X : Type 0} (x y : X) (xs : List X) → Contains xs y → Contains (x ∷ xs) y
later_in x y xs c = (suc c.0, omega (arith, c.1), c.2)

none_in : {X : Type 0} (y : X) → Contains [] y → ⊥
none_in y c = omega (arith, c.1)

below : {X : Type 0} (R : X → X → Type 0) (x : X) (xs : List X) → AllByRecursion (R x) xs → (y : X) → Contains xs y → R x y
below R x xs all y c = All-contains (R x) xs y (All-from_recursion (R x) xs all) c

-- two of which neither comes first are one
one_at : {X : Type 0} (R : X → X → Type 0) (xs : List X) → Sorted R xs → (r t : X) → Contains xs r → Contains xs t → ¬ (R r t) → ¬ (R t r) → r ≡ t
one_at R [] s r t a b n m = absurd (none_in r a)
one_at R (x ∷ xs) s r t a b n m = by (head_or x r xs a) (head_or x t xs b) (one_at R xs s.1 r t)
  where
    by : (x ≡ r) ⊎ Contains xs r → (x ≡ t) ⊎ Contains xs t → (Contains xs r → Contains xs t → ¬ (R r t) → ¬ (R t r) → r ≡ t) → r ≡ t
    by (inl p) (inl q) again = sym p ∙ q
    by (inl p) (inr c) again = absurd (n (subst (λ z. R z t) p (below R x xs s.0 t c)))
    by (inr c) (inl q) again = absurd (m (subst (λ z. R z r) q (below R x xs s.0 r c)))
    by (inr c) (inr e) again = again c e n m

-- a list without one of its elements
record Without {X : Type 0} (ys : List X) (x : X) : Type 0 where
  pub rest : List X
  pub shorter : length ys ≡ length rest + 1
  pub others : (y : X) → Contains ys y → (x ≡ y) ⊎ Contains rest y

without : {X : Type 0} (ys : List X) (x : X) → Contains ys x → Without ys x
without [] x h = absurd (none_in x h)
without (y ∷ ys) x h = by (head_or y x ys h) (λ t. without ys x t)
  where
    by : (y ≡ x) ⊎ Contains ys x → (Contains ys x → Without ys x) → Without (y ∷ ys) x
    by (inl same) again = record { rest = ys; shorter = omega arith; others = λ q c. ⊎_elim (λ e. inl (sym same ∙ e)) (λ t. inr t) (head_or y q ys c) }
    by (inr t) again =
        let w = again t in
        record {
          rest = y ∷ w.rest;
          shorter = omega (arith, w.shorter);
          others = λ q c. ⊎_elim (λ e. inr (subst (Contains (y ∷ w.rest)) e (first_in y w.rest))) (λ t. ⊎_elim (λ e. inl e) (λ u. inr (later_in y q w.rest u)) (w.others q t)) (head_or y q ys c);
        }

-- names in order are no more than a list that has them
no_more : (xs ys : List Name) → Sorted ComesBefore xs → ((x : Name) → Contains xs x → Contains ys x) → length xs ≤ length ys
no_more [] ys s among = omega arith
no_more (x ∷ xs) ys s among =
    let w = without ys x (among x (first_in x xs)) in
    let less = no_more xs w.rest s.1 (λ z c. ⊎_elim (λ e. absurd (before_self x (subst (ComesBefore x) (sym e) (below ComesBefore x xs s.0 z c)))) (λ t. t) (w.others z (among z (later_in x z xs c)))) in
    omega (arith, less, w.shorter)

module _ {X : Type 0} (R : X → X → Type 0) (asym : (x y : X) → R x y → R y x → ⊥) where
  heads : (x y : X) (xs ys : List X) → AllByRecursion (R x) xs → AllByRecursion (R y) ys → Contains (y ∷ ys) x → Contains (x ∷ xs) y → x ≡ y
  heads x y xs ys a b c e = by (head_or y x ys c) (head_or x y xs e)
    where
      by : (y ≡ x) ⊎ Contains ys x → (x ≡ y) ⊎ Contains xs y → x ≡ y
      by (inl s) e = sym s
      by (inr c) (inl s) = s
      by (inr c) (inr e) = absurd (asym x y (below R x xs a y e) (below R y ys b x c))

  tail_in : (x y z : X) (xs ys : List X) → x ≡ y → AllByRecursion (R x) xs → Contains xs z → Contains (y ∷ ys) z → Contains ys z
  tail_in x y z xs ys same a c e = ⊎_elim (λ s. let r = below R x xs a z c in absurd (asym x x (subst (R x) (sym (same ∙ s)) r) (subst (R x) (sym (same ∙ s)) r))) (λ t. t) (head_or y z ys e)

  same_list : (xs ys : List X) → Sorted R xs → Sorted R ys → ((x : X) → Contains xs x → Contains ys x) → ((y : X) → Contains ys y → Contains xs y) → xs ≡ ys
  same_list [] [] s t f g = refl
  same_list [] (y ∷ ys) s t f g = absurd (none_in y (g y (first_in y ys)))
  same_list (x ∷ xs) [] s t f g = absurd (none_in x (f x (first_in x xs)))
  same_list (x ∷ xs) (y ∷ ys) s t f g =
      let same = heads x y xs ys s.0 t.0 (f x (first_in x xs)) (g y (first_in y ys)) in
      ap (λ z. z ∷ xs) same ∙ ap (λ zs. y ∷ zs) (same_list xs ys s.1 t.1
      (λ z c. tail_in x y z xs ys same s.0 c (f z (later_in x z xs c))) (λ z c. tail_in y x z ys xs (sym same) t.0 c (g z (later_in y z ys c))))

sorted_names : (names : List Name) → IsStrictlySortedBy (slice_cmp nat_cmp) names → Sorted ComesBefore names
unfolding IsStrictlySortedBy
sorted_names [] s = tt
sorted_names (x ∷ names) s = (s.0, sorted_names names s.1)

few_not_many : (d : Disk) (loader : ℕ) → AreFew d loader → AreMany d loader → ⊥
few_not_many d loader few many =
    let less = no_more many.0 few.0 (sorted_names many.0 many.1.ascending) (λ x c. few.2 x ((many.1.exact x).0 c)) in
    omega (arith, less, few.1, many.2)

-- the row with the greater version comes first
abbrev Falls : BootRow → BootRow → Type 0
Falls r s = nat_cmp s.version r.version ≡ Less

falls_once : (r s : BootRow) → Falls r s → Falls s r → ⊥
falls_once r s a b =
    let c = nat_cmp_total.trans s.version r.version s.version a b in
    let n : Equal ≡ Less = sym (tied_itself nat_cmp_total s.version) ∙ c in cc

falls_all : (r : BootRow) (rows : List BootRow) → AllByRecursion (λ v. nat_cmp v r.version ≡ Less) (map (λ (q : BootRow). q.version) rows) → AllByRecursion (Falls r) rows
falls_all r [] all = tt
falls_all r (s ∷ rows) all = (all.0, falls_all r rows all.1)

sorted_rows : (rows : List BootRow) → IsStrictlySortedBy (λ a b. nat_cmp b a) (map (λ (r : BootRow). r.version) rows) → Sorted Falls rows
unfolding IsStrictlySortedBy
sorted_rows [] s = tt
sorted_rows (r ∷ rows) s = (falls_all r rows s.0, sorted_rows rows s.1)

-- ---- the version and its folder

two_wide : (n : ℕ) → n < 2 → n < 2 ^ 64
two_wide n less = omega (arith, less)

loader_target-injective : (l m : ℕ) → l < 2 → m < 2 → loader_target l ≡ loader_target m → l ≡ m
unfolding loader_target
loader_target-injective l m a b e = decimal_injective l m (two_wide l a) (two_wide m b) (append_cancel_left (codes "loader.") (decimal l) (decimal m) e)

boot_target-injective : (l s t : ℕ) → s < 2 → t < 2 → boot_target l s ≡ boot_target l t → s ≡ t
unfolding boot_target
boot_target-injective l s t a b e =
    let n : decimal l ++ (46 ∷ decimal s) ≡ decimal l ++ (46 ∷ decimal t) = append_cancel_left (codes "boot.") (decimal l ++ (46 ∷ decimal s)) (decimal l ++ (46 ∷ decimal t)) e in
    let m : 46 ∷ decimal s ≡ 46 ∷ decimal t = append_cancel_left (decimal l) (46 ∷ decimal s) (46 ∷ decimal t) n in
    decimal_injective s t (two_wide s a) (two_wide t b) (let k : decimal s ≡ decimal t = cc in k)

link_once : (d : Disk) (p : Path) (a b : List ℕ) → IsLinkTo a (shows d p) → IsLinkTo b (shows d p) → a ≡ b
link_once d p a b s t = let e : Symlink s.0 a ≡ Symlink t.0 b = sym s.1 ∙ t.1 in cc

loader_once : (d : Disk) (l m : ℕ) → Selects d l → Selects d m → l ≡ m
loader_once d l m p q = loader_target-injective l m p.small q.small (link_once d loader_path (loader_target l) (loader_target m) p.link q.link)

sub_once : (d : Disk) (l s t : ℕ) → HasSub d l s → HasSub d l t → s ≡ t
sub_once d l s t p q = boot_target-injective l s t p.small q.small (link_once d (boot_link_path l) (boot_target l s) (boot_target l t) p.link q.link)

same_version : (r s : BootRow) → r.version ≡ s.version → Falls r s → ⊥
same_version r s e f = let n : Equal ≡ Less = sym (tied_itself nat_cmp_total s.version) ∙ subst (λ v. nat_cmp s.version v ≡ Less) e f in cc

-- the first of which something is so is one
first_once : (P : Name → Type 0) (x y : Name) → IsFirst P x → IsFirst P y → x ≡ y
first_once P x y p q = by (slice_cmp nat_cmp x y) refl
  where
    by : (o : Ordering) → slice_cmp nat_cmp x y ≡ o → x ≡ y
    by Less e = absurd (q.least x e p.has)
    by Equal e = slice_cmp-IsAntisymmetric nat_cmp-IsAntisymmetric x y e
    by Greater e = absurd (p.least y (nat_list_cmp_total.antisymm y x ∙ rw e refl) q.has)

bad_once : (d : Disk) (loader sub : ℕ) (file : Name) (a b : Path) → IsBadItem d loader sub file a → IsBadItem d loader sub file b → a ≡ b
bad_once d loader sub file a b p q = p.path_is ∙ same_path loader sub p.os q.os p.bootcsum q.bootcsum p.n q.n (named_once d loader file p.os q.os p.bootcsum q.bootcsum p.n q.n p.named q.named) ∙ sym q.path_is

-- ---- what a list shows

module _ (d : Disk) (loader sub : ℕ) (rows : List BootRow) (are : AreBootRows d loader sub rows) where
  abbrev file_of : BootRow → Name
  file_of r = r.file

  record Found (file : Name) : Type 0 where
    pub row : BootRow
    pub in_rows : Contains rows row
    pub named : row.file ≡ file
    pub is : IsBootRow d loader sub row

  found : (file : Name) → IsEntry d loader file → Found file
  found file entry =
      let m = mapped file_of rows file (are.all file entry) in
      record { row = m.0; in_rows = m.1; named = m.2; is = All-contains (IsBootRow d loader sub) rows m.0 are.each m.1 }

  read_all : (file : Name) (fault : EntryFault) → ¬ (IsUnread d loader file fault)
  read_all file fault wrong =
      let f = found file (wrong.bytes, wrong.there) in
      not_unread d loader file f.is.led.entry fault (subst (λ n. IsRead d loader n f.is.led.entry) f.named f.is.led.read) wrong

  linked_all : (file : Name) (path : Path) → ¬ (IsBadItem d loader sub file path)
  linked_all file path bad =
      let f = found file (bad.named.read.bytes, bad.named.read.there) in
      let on = f.is.led.leads in
      let s = named_once d loader file f.row.id.os bad.os f.row.bootcsum bad.bootcsum f.row.number bad.n (subst (λ n. IsNamed d loader n f.row.id.os f.row.bootcsum f.row.number) f.named on.named) bad.named in
      let at : item_link loader sub f.row.id.os f.row.bootcsum f.row.number ≡ path = same_path loader sub f.row.id.os bad.os f.row.bootcsum bad.bootcsum f.row.number bad.n s ∙ sym bad.path_is in
      bad.other f.row.id (subst (λ o. IsItemLink d path o f.row.id) s.0 (subst (λ p. IsItemLink d p f.row.id.os f.row.id) at on.link))

  -- two rows of one version, or of one file, are one
  version_once : (r s : BootRow) → Contains rows r → Contains rows s → r.version ≡ s.version → r ≡ s
  version_once r s has also e = one_at Falls rows (sorted_rows rows are.falling) r s has also (same_version r s e) (same_version s r (sym e))

  own_all : (file : Name) → IsEntry d loader file → HasOwn d loader sub file
  own_all file entry =
      let f = found file entry in
      subst (HasOwn d loader sub) f.named (record {
        id = f.row.id;
        leads = (f.row.bootcsum, f.row.number, f.is.led.leads);
        there = f.is.there;
        alone = λ other on.
            let g = found other (on.2.named.read.bytes, on.2.named.read.there) in
            let same = (leads_once d loader sub other g.row.bootcsum on.0 g.row.number on.1 g.row.id f.row.id (subst (λ n. LeadsOn d loader sub n g.row.bootcsum g.row.number g.row.id) g.named g.is.led.leads) on.2).2 in
            sym g.named ∙ sym (are.differ f.row g.row f.in_rows g.in_rows (sym same));
        version = λ other have.
            let g = found other (have.also.bytes, have.also.there) in
            let here = read_once d loader f.row.file have.entry f.is.led.entry have.read f.is.led.read in
            let there = read_once d loader other have.second g.is.led.entry have.also (subst (λ n. IsRead d loader n g.is.led.entry) g.named g.is.led.read) in
            let same : g.row.version ≡ f.row.version = g.is.led.version_is ∙ ap (λ (e : BlsEntry). e.version) (sym there) ∙ sym have.same ∙ ap (λ (e : BlsEntry). e.version) here ∙ sym f.is.led.version_is in
            sym g.named ∙ ap file_of (version_once g.row f.row g.in_rows f.in_rows same);
      })

  few_all : AreFew d loader
  few_all = (map file_of rows, omega (arith, are.few, length-map rows file_of), are.all)

  linked : HasFolders d loader sub → AreLinked d loader sub
  linked folders = record { read = record { entries = record { folders = folders; few = few_all }; all = read_all }; all = linked_all }

-- ---- the rows of one disk

row_once : (d : Disk) (loader sub : ℕ) (r s : BootRow) → IsBootRow d loader sub r → IsBootRow d loader sub s → r.file ≡ s.file → r ≡ s
row_once d loader sub r s p q same =
    let entry = read_once d loader s.file p.led.entry q.led.entry (subst (λ n. IsRead d loader n p.led.entry) same p.led.read) q.led.read in
    let on = leads_once d loader sub s.file r.bootcsum s.bootcsum r.number s.number r.id s.id (subst (λ n. LeadsOn d loader sub n r.bootcsum r.number r.id) same p.led.leads) q.led.leads in
    alike r s same (p.led.version_is ∙ ap (λ (e : BlsEntry). e.version) entry ∙ sym q.led.version_is) on.2 (p.led.kargs_are ∙ ap (λ (e : BlsEntry). other_words e.options) entry ∙ sym q.led.kargs_are) on.0 on.1
  where
    alike : (r s : BootRow) → r.file ≡ s.file → r.version ≡ s.version → r.id ≡ s.id → r.kargs ≡ s.kargs → r.bootcsum ≡ s.bootcsum → r.number ≡ s.number → r ≡ s
    alike r s file version id kargs bootcsum number =
        ap (λ x. record { file = x; version = r.version; id = r.id; kargs = r.kargs; bootcsum = r.bootcsum; number = r.number }) file
        ∙ ap (λ x. record { file = s.file; version = x; id = r.id; kargs = r.kargs; bootcsum = r.bootcsum; number = r.number }) version
        ∙ ap (λ x. record { file = s.file; version = s.version; id = x; kargs = r.kargs; bootcsum = r.bootcsum; number = r.number }) id
        ∙ ap (λ x. record { file = s.file; version = s.version; id = s.id; kargs = x; bootcsum = r.bootcsum; number = r.number }) kargs
        ∙ ap (λ x. record { file = s.file; version = s.version; id = s.id; kargs = s.kargs; bootcsum = x; number = r.number }) bootcsum
        ∙ ap (λ x. record { file = s.file; version = s.version; id = s.id; kargs = s.kargs; bootcsum = s.bootcsum; number = x }) number

other_row : (d : Disk) (loader sub : ℕ) (rows qs : List BootRow) → AreBootRows d loader sub rows → AreBootRows d loader sub qs → (r : BootRow) → Contains rows r → Contains qs r
other_row d loader sub rows qs p q r has =
    let is = All-contains (IsBootRow d loader sub) rows r p.each has in
    let f = found d loader sub qs q r.file (is.led.read.bytes, is.led.read.there) in
    subst (Contains qs) (row_once d loader sub f.row r f.is is f.named) f.in_rows

rows_once : (d : Disk) (loader sub : ℕ) (rows qs : List BootRow) → AreBootRows d loader sub rows → AreBootRows d loader sub qs → rows ≡ qs
rows_once d loader sub rows qs p q =
    same_list Falls falls_once rows qs (sorted_rows rows p.falling) (sorted_rows qs q.falling) (other_row d loader sub rows qs p q) (other_row d loader sub qs rows q p)

-- ---- what an answer says, by the first rule that doesn't hold

-- where the first two rules hold
data Behind (d : Disk) (loader sub : ℕ) (a : Answer) : Type 0 where
  Third : AreMany d loader → a ≡ Err (TooMany (entries_path loader)) → Behind d loader sub a
  Fourth : (file : Name) (fault : EntryFault) → AreFew d loader → IsFirst (λ f. (wrong : EntryFault) × IsUnread d loader f wrong) file → IsUnread d loader file fault
      → a ≡ Err (BadEntry (entry_path loader file) fault) → Behind d loader sub a
  Fifth : (file : Name) (path : Path) → AreRead d loader sub → IsFirst (λ f. (at : Path) × IsBadItem d loader sub f at) file → IsBadItem d loader sub file path → a ≡ Err (BadLink path) → Behind d loader sub a
  Sixth : (file : Name) → AreLinked d loader sub → IsFirst (Lacks d loader sub) file → a ≡ Err (NoDeployment (entry_path loader file)) → Behind d loader sub a
  Rows : (rows : List BootRow) → AreBootRows d loader sub rows → a ≡ Ok rows → Behind d loader sub a

data Outcome (d : Disk) (a : Answer) : Type 0 where
  Nothing : shows d loader_path ≡ Vacant → a ≡ Ok [] → Outcome d a
  First : NoLoader d → a ≡ Err (BadLink loader_path) → Outcome d a
  Second : (loader : ℕ) → NoFolder d loader → a ≡ Err (BadLink (boot_link_path loader)) → Outcome d a
  Later : (loader sub : ℕ) → HasFolders d loader sub → Behind d loader sub a → Outcome d a

outcome : (d : Disk) (a : Answer) → IsOfDisk a → Answers d a → Outcome d a
outcome d (Ok rows) of (inl is) = Nothing is.0 (ap Ok is.1)
outcome d (Ok rows) of (inr is) = Later is.0 is.1 (record { selects = is.2; folder = is.3 }) (Rows rows is.4 refl)
outcome d (Err (BadLink path)) of (OfLoader none at) = First none (ap (λ p. Err (BadLink p)) at)
outcome d (Err (BadLink path)) of (OfVersion loader none at) = Second loader none (ap (λ p. Err (BadLink p)) at)
outcome d (Err (BadLink path)) of (OfEntry is) = Later is.loader is.sub is.before.entries.folders (Fifth is.file path is.before is.first is.bad refl)
outcome d (Err (TooMany path)) of is = Later is.loader is.sub is.before (Third is.many (ap (λ p. Err (TooMany p)) is.path_is))
outcome d (Err (BadEntry path fault)) of is = Later is.loader is.sub is.before.folders (Fourth is.file fault is.before.few is.first is.wrong (ap (λ p. Err (BadEntry p fault)) is.path_is))
outcome d (Err (NoDeployment path)) of is = Later is.loader is.sub is.before.read.entries.folders (Sixth is.file is.before is.first (ap (λ p. Err (NoDeployment p)) is.path_is))
outcome d (Err (Fs error)) of is = absurd of
outcome d (Err NoMemory) of is = absurd of

-- a rule that holds is none that doesn't
module _ (d : Disk) (loader sub : ℕ) (folders : HasFolders d loader sub) where
  third_last : (b : Answer) → AreMany d loader → Behind d loader sub b → b ≡ Err (TooMany (entries_path loader))
  third_last b many (Third more e) = e
  third_last b many (Fourth file fault few first wrong e) = absurd (few_not_many d loader few many)
  third_last b many (Fifth file path read first bad e) = absurd (few_not_many d loader read.entries.few many)
  third_last b many (Sixth file linked_ first e) = absurd (few_not_many d loader linked_.read.entries.few many)
  third_last b many (Rows rows are e) = absurd (few_not_many d loader (few_all d loader sub rows are) many)

  fourth_last : (file : Name) (fault : EntryFault) (b : Answer) → AreFew d loader → IsFirst (λ f. (wrong : EntryFault) × IsUnread d loader f wrong) file → IsUnread d loader file fault → Behind d loader sub b
      → b ≡ Err (BadEntry (entry_path loader file) fault)
  fourth_last file fault b few first wrong (Third many e) = absurd (few_not_many d loader few many)
  fourth_last file fault b few first wrong (Fourth other second less before also e) =
      let same : other ≡ file = first_once (λ f. (wrong : EntryFault) × IsUnread d loader f wrong) other file before first in
      e ∙ ap (λ f. Err (BadEntry (entry_path loader f) second)) same
      ∙ ap (λ f. Err (BadEntry (entry_path loader file) f)) (unread_once d loader file second fault (subst (λ n. IsUnread d loader n second) same also) wrong)
  fourth_last file fault b few first wrong (Fifth other path read before bad e) = absurd (read.all file fault wrong)
  fourth_last file fault b few first wrong (Sixth other linked_ before e) = absurd (linked_.read.all file fault wrong)
  fourth_last file fault b few first wrong (Rows rows are e) = absurd (read_all d loader sub rows are file fault wrong)

  fifth_last : (file : Name) (path : Path) (b : Answer) → AreRead d loader sub → IsFirst (λ f. (at : Path) × IsBadItem d loader sub f at) file → IsBadItem d loader sub file path → Behind d loader sub b → b ≡ Err (BadLink path)
  fifth_last file path b read first bad (Third many e) = absurd (few_not_many d loader read.entries.few many)
  fifth_last file path b read first bad (Fourth other fault few before wrong e) = absurd (read.all other fault wrong)
  fifth_last file path b read first bad (Fifth other at also before there e) =
      let same : other ≡ file = first_once (λ f. (at : Path) × IsBadItem d loader sub f at) other file before first in
      e ∙ ap (λ p. Err (BadLink p)) (bad_once d loader sub file at path (subst (λ n. IsBadItem d loader sub n at) same there) bad)
  fifth_last file path b read first bad (Sixth other linked_ before e) = absurd (linked_.all file path bad)
  fifth_last file path b read first bad (Rows rows are e) = absurd (linked_all d loader sub rows are file path bad)

  sixth_last : (file : Name) (b : Answer) → AreLinked d loader sub → IsFirst (Lacks d loader sub) file → Behind d loader sub b → b ≡ Err (NoDeployment (entry_path loader file))
  sixth_last file b linked_ first (Third many e) = absurd (few_not_many d loader linked_.read.entries.few many)
  sixth_last file b linked_ first (Fourth other fault few before wrong e) = absurd (linked_.read.all other fault wrong)
  sixth_last file b linked_ first (Fifth other path read before bad e) = absurd (linked_.all other path bad)
  sixth_last file b linked_ first (Sixth other also before e) = e ∙ ap (λ f. Err (NoDeployment (entry_path loader f))) (first_once (Lacks d loader sub) other file before first)
  sixth_last file b linked_ first (Rows rows are e) = absurd (first.has.none (own_all d loader sub rows are file first.has.entry))

  rows_last : (rows : List BootRow) (b : Answer) → AreBootRows d loader sub rows → Behind d loader sub b → b ≡ Ok rows
  rows_last rows b are (Third many e) = absurd (few_not_many d loader (few_all d loader sub rows are) many)
  rows_last rows b are (Fourth file fault few first wrong e) = absurd (read_all d loader sub rows are file fault wrong)
  rows_last rows b are (Fifth file path read first bad e) = absurd (linked_all d loader sub rows are file path bad)
  rows_last rows b are (Sixth file linked_ first e) = absurd (first.has.none (own_all d loader sub rows are file first.has.entry))
  rows_last rows b are (Rows qs also e) = e ∙ ap Ok (rows_once d loader sub qs rows also are)

  behind_once : (a b : Answer) → Behind d loader sub a → Behind d loader sub b → a ≡ b
  behind_once a b (Third many e) q = e ∙ sym (third_last b many q)
  behind_once a b (Fourth file fault few first wrong e) q = e ∙ sym (fourth_last file fault b few first wrong q)
  behind_once a b (Fifth file path read first bad e) q = e ∙ sym (fifth_last file path b read first bad q)
  behind_once a b (Sixth file linked_ first e) q = e ∙ sym (sixth_last file b linked_ first q)
  behind_once a b (Rows rows are e) q = e ∙ sym (rows_last rows b are q)

vacant_selects : (d : Disk) (loader : ℕ) → shows d loader_path ≡ Vacant → Selects d loader → ⊥
vacant_selects d loader vacant is = let n : Symlink is.link.0 (loader_target loader) ≡ Vacant = sym is.link.1 ∙ vacant in cc

outcome_once : (d : Disk) (a b : Answer) → Outcome d a → Outcome d b → a ≡ b
outcome_once d a b (Nothing vacant e) (Nothing also f) = e ∙ sym f
outcome_once d a b (Nothing vacant e) (First none f) = absurd (none.there vacant)
outcome_once d a b (Nothing vacant e) (Second m none f) = absurd (vacant_selects d m vacant none.selects)
outcome_once d a b (Nothing vacant e) (Later m t folders q) = absurd (vacant_selects d m vacant folders.selects)
outcome_once d a b (First none e) (Nothing vacant f) = absurd (none.there vacant)
outcome_once d a b (First none e) (First also f) = e ∙ sym f
outcome_once d a b (First none e) (Second m also f) = absurd (none.none m also.selects)
outcome_once d a b (First none e) (Later m t folders q) = absurd (none.none m folders.selects)
outcome_once d a b (Second l none e) (Nothing vacant f) = absurd (vacant_selects d l vacant none.selects)
outcome_once d a b (Second l none e) (First also f) = absurd (also.none l none.selects)
outcome_once d a b (Second l none e) (Second m also f) = e ∙ ap (λ v. Err (BadLink (boot_link_path v))) (loader_once d l m none.selects also.selects) ∙ sym f
outcome_once d a b (Second l none e) (Later m t folders q) = absurd (none.none t (subst (λ v. HasSub d v t) (loader_once d m l folders.selects none.selects) folders.folder))
outcome_once d a b (Later l s folders p) (Nothing vacant f) = absurd (vacant_selects d l vacant folders.selects)
outcome_once d a b (Later l s folders p) (First none f) = absurd (none.none l folders.selects)
outcome_once d a b (Later l s folders p) (Second m none f) = absurd (none.none s (subst (λ v. HasSub d v s) (loader_once d l m folders.selects none.selects) folders.folder))
outcome_once d a b (Later l s folders p) (Later m t also q) =
    let loader : m ≡ l = loader_once d m l also.selects folders.selects in
    let there = subst (λ v. HasSub d v t) loader also.folder in
    let sub : t ≡ s = sub_once d l t s there folders.folder in
    behind_once d l s folders a b p (subst (λ w. Behind d l w b) sub (subst (λ v. Behind d v t b) loader q))

pub answered_once : AnsweredOnce
answered_once d a b of also p q = outcome_once d a b (outcome d a of p) (outcome d b also q)
