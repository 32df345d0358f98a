-- What each step of a comparison tells.
use Rattle.std.proofs.Common.{◌≡◌, ◌≢◌, ◌⊎◌, inr, ℕ, suc, ◌<◌, ◌≤◌, arith, refl, sym, ◌∙◌, ap, subst, List, [], ◌∷◌, ◌++◌, length, drop, reverse, get_or, Option, Some, None, append_assoc}
use Rattle.std.specs.Prelude.{Contains, codes}
use Rattle.std.proofs.lemmas.List.{get_or_default}
use Rattle.ost_types.specs.Path.{Name, Path, under}
use Rattle.fs_trait.specs.declared.types.Value.TheVariants.{Absent}
use Rattle.fs_trait.specs.View.{Disk}
use Rattle.fs_trait.specs.Image.{reads}
use Rattle.repo_layout.specs.BootPaths.{entry_path, loader_folder_path}
use Rattle.repo_layout.specs.Fixed.{entries_path, number}
use Rattle.boot_model.specs.declared.item.BootItem.{BootItem}
use Rattle.boot_model.specs.Items.{AreItems, IsAt}
use Rattle.boot_model.specs.Entries.{entry_text}
use Rattle.repo_layout.specs.declared.fixed.Version.{Version}
use Rattle.boot_model.specs.Listing.{HasEntry, Selects, ShowsEntries, ends_conf}
use Rattle.boot_model.proofs.Distinct.{text_index}
use Rattle.boot_plan.proofs.Growing.{item_at}
use Rattle.checkout.proofs.RemoveLists.{Contains-reverse}
use Rattle.boot_compare.specs.declared.comparing.Compared.{Compared}
use Rattle.boot_compare.specs.declared.comparing.Compared.TheVariants.{More, Same, Other}
use Rattle.boot_compare.specs.Comparing.{AreAllTexts, AreApart, AreTexts, Compares, Comparison, IsListed, IsSeen, IsTakenFrom, Tells, ended, passed, without}
use Rattle.boot_compare.specs.declared.choosing.ChoosePhase.TheVariants as choose
use Rattle.boot_compare.specs.Choosing as choosing
use Rattle.boot_compare.proofs.Answering.{read_there}
use Rattle.boot_compare.proofs.Matching.{apart_left, none_back, none_passed, over, over_back, some_back, some_passed, wrong}

pub entry_under : (loader : ℕ) (file : Name) → under (entries_path loader) file ≡ entry_path loader file
entry_under loader file = append_assoc (loader_folder_path loader) (codes "entries" ∷ []) (file ∷ [])

-- what is read at an entry's path
pub held_at : (d : Disk) (loader : ℕ) (file : Name) (at : Path) (o : Option (List ℕ)) → at ≡ under (entries_path loader) file → o ≡ reads d at → reads d (entry_path loader file) ≡ o
held_at d loader file at o is read = ap (reads d) (sym (is ∙ entry_under loader file)) ∙ sym read

-- ---- one name after the other

module _ (d : Disk) (loader : ℕ) (items : List BootItem) where
  -- a name that is no entry
  pub passes : (c : Comparison) (x : Name) → c.names ≡ x ∷ drop 1 c.names → ((t : List ℕ) → HasEntry d loader x t → ⊥) → Compares d loader items c → Compares d loader items (passed c)
  passes c x first none compares = by (drop 1 c.names) c.texts (subst (λ l. Compares d loader items (record { names = l; texts = c.texts })) first compares)
    where
      by : (rest : List Name) (texts : List (List ℕ)) → Compares d loader items (record { names = x ∷ rest; texts = texts }) → Compares d loader items (record { names = rest; texts = texts })
      by rest texts is = record {
        names = is.names.1;
        texts = is.texts;
        says = ((λ are. is.says.0 (none_back d loader x rest texts none are)), (λ shows. none_passed d loader x rest texts none (is.says.1 shows)));
      }

  -- an entry
  pub takes : (c : Comparison) (x : Name) (text : List ℕ) (r : Compared) (new : Comparison) → c.names ≡ x ∷ drop 1 c.names → HasEntry d loader x text → IsTakenFrom c text r new → Compares d loader items c → Tells d loader items r new
  takes c x text More new first entry taken compares =
      subst (Compares d loader items) (sym taken.1) (by (drop 1 c.names) c.texts taken.0 (subst (λ l. Compares d loader items (record { names = l; texts = c.texts })) first compares))
    where
      by : (rest : List Name) (texts : List (List ℕ)) → Contains texts text → Compares d loader items (record { names = x ∷ rest; texts = texts }) → Compares d loader items (record { names = rest; texts = without text texts })
      by rest texts among is = record {
        names = is.names.1;
        texts = apart_left text texts is.texts;
        says = (
          (λ are. is.says.0 (some_back d loader x rest texts text entry is.names.0 is.texts among are)),
          (λ shows. some_passed d loader x rest texts text entry is.names.0 is.texts among (is.says.1 shows)),
        );
      }
  takes c x text Other new first entry taken compares = λ shows.
      let is = subst (λ l. Compares d loader items (record { names = l; texts = c.texts })) first compares in
      wrong d loader x (drop 1 c.names) c.texts text entry taken.0 (is.says.1 shows)
  takes c x text Same new first entry taken compares = absurd taken

  -- no name is left
  pub ends : (c : Comparison) → c.names ≡ [] → Compares d loader items c → Tells d loader items (ended c.texts) c
  ends c none compares = by c.texts (subst (λ l. Compares d loader items (record { names = l; texts = c.texts })) none compares)
    where
      by : (texts : List (List ℕ)) → Compares d loader items (record { names = []; texts = texts }) → Tells d loader items (ended texts) c
      by [] is = is.says.0 (over_back d loader)
      by (t ∷ texts) is = λ shows. let e : t ∷ texts ≡ [] = over d loader (t ∷ texts) (is.says.1 shows) in cc

  -- what stands at the name of an entry
  pub sees : (c : Comparison) (x : Name) (found : Option (List ℕ)) (r : Compared) (new : Comparison) → c.names ≡ x ∷ drop 1 c.names → ends_conf x → reads d (entry_path loader x) ≡ found → IsSeen c found r new
      → Compares d loader items c → Tells d loader items r new
  sees c x None r new first conf held seen compares = subst (λ q. Tells d loader items q new) (sym seen.0)
      (subst (Compares d loader items) (sym seen.1) (passes c x first (λ t has. let e : None ≡ Some t = sym held ∙ has.holds in cc) compares))
  sees c x (Some text) r new first conf held seen compares = takes c x text r new first (record { name = conf; holds = held }) seen compares

-- ---- the beginning

apart_by : (xs : List (List ℕ)) → ((i j : ℕ) → i < length xs → j < length xs → get_or xs i [] ≡ get_or xs j [] → i ≡ j) → AreApart xs
apart_by [] one_place = tt
apart_by (x ∷ xs) one_place = (
  (λ has.
      let same : get_or xs has.0 [] ≡ x = get_or_default xs has.0 [] x has.1 ∙ has.2 in
      let n : 0 ≡ suc has.0 = one_place 0 (suc has.0) (omega arith) (omega (arith, has.1)) (sym same) in
      omega (arith, n)),
  apart_by xs (λ i j one two same. let n : suc i ≡ suc j = one_place (suc i) (suc j) (omega (arith, one)) (omega (arith, two)) same in omega (arith, n)),
)

module _ (loader : ℕ) (items : List BootItem) (are : AreItems items) (texts : List (List ℕ)) (all : AreAllTexts loader items texts) where
  -- a text is that of a member
  pub text_of : (text : List ℕ) → Contains texts text → (i : ℕ) × (item : BootItem) × IsAt items i item × (text ≡ entry_text loader items i item)
  text_of text has =
      let less : has.0 < length items = omega (arith, has.1, all.whole) in
      let item = item_at items has.0 less in
      (has.0, item.0, (less, item.1), sym has.2 ∙ get_or_default texts has.0 text [] has.1 ∙ all.each has.0 item.0 (less, item.1))

  pub text_in : (i : ℕ) (item : BootItem) → IsAt items i item → Contains texts (entry_text loader items i item)
  text_in i item at =
      let less : i < length texts = omega (arith, at.0, all.whole) in
      (i, less, get_or_default texts i (entry_text loader items i item) [] less ∙ all.each i item at)

  pub texts_apart : AreApart texts
  texts_apart = apart_by texts one_place
    where
      one_place : (i j : ℕ) → i < length texts → j < length texts → get_or texts i [] ≡ get_or texts j [] → i ≡ j
      one_place i j one two same =
          let less : i < length items = omega (arith, one, all.whole) in
          let short : j < length items = omega (arith, two, all.whole) in
          let a = item_at items i less in
          let b = item_at items j short in
          text_index loader items are i j a.0 b.0 (less, a.1) (short, b.1) (sym (all.each i a.0 (less, a.1)) ∙ same ∙ all.each j b.0 (short, b.1))

  module _ (d : Disk) (names : List Name) (listed : IsListed d (entries_path loader) names) where
    named : (file : Name) (text : List ℕ) → HasEntry d loader file text → Contains (reverse names) file
    named file text has = Contains-reverse names file (listed.all file (subst (λ p. d.at p ≢ Absent) (sym (entry_under loader file)) (read_there d (entry_path loader file) text has.holds)))

    abbrev begun : Comparison
    begun = record { names = reverse names; texts = texts }

    shows : AreTexts d loader (record { names = reverse names; texts = texts }) → ShowsEntries d loader items
    shows is = record {
      each = λ i item at. let f = is.each (entry_text loader items i item) (text_in i item at) in (f.0, f.2);
      only = λ file bytes has. text_of bytes (is.only file bytes (named file bytes has) has);
      once = λ f g bytes one two. is.once f g bytes (named f bytes one) (named g bytes two) one two;
    }

    back : ShowsEntries d loader items → AreTexts d loader (record { names = reverse names; texts = texts })
    back is = record {
      each = λ text has.
          let t = text_of text has in
          let f = is.each t.0 t.1 t.2 in
          let entry : HasEntry d loader f.0 text = subst (HasEntry d loader f.0) (sym t.3) f.1 in
          (f.0, named f.0 text entry, entry);
      only = λ file text has entry. let t = is.only file text entry in subst (Contains texts) (sym t.3) (text_in t.0 t.1 t.2);
      once = λ f g text has there one two. is.once f g text one two;
    }

    pub begins : Compares d loader items (record { names = reverse names; texts = texts })
    begins = record { names = listed.apart; texts = texts_apart; says = (shows, back) }

-- ---- which swap it is

pub outcome_tells : (d : Disk) (items : List BootItem) (n : Version) (r : Compared) (new : Comparison) → Selects d (number n) → Tells d (number n) items r new → choosing.Tells d items (choosing.outcome n r) (record { phase = choose.Compare n new })
outcome_tells d items n More new selects tells = (selects, tells)
outcome_tells d items n Same new selects tells = (selects, tells)
outcome_tells d items n Other new selects tells = inr (n, selects, refl, tells)
