-- The nodes of the folder of links, one member after the other.
use Rattle.std.proofs.Common.{◌≡◌, ◌≢◌, ◌⊎◌, inl, inr, ⊎_elim, ℕ, zero, suc, ◌+◌, ◌-◌, ◌<◌, ◌≤◌, arith, Bool, true, false, ◌&&◌, List, [], ◌∷◌, ◌++◌, length, take, drop, get_or, Ok, Option, Some, None, if◌then◌else◌, refl, sym, ◌∙◌, ap, subst, length-append, append_assoc}
use Rattle.std.specs.Prelude.{count_by}
use Rattle.std.specs.Fmt.{decimal}
use Rattle.std.proofs.lemmas.List.{append_cancel_left, get_or_default, length-take-le}
use Rattle.std.proofs.lemmas.List.Sums.{count_by_more_yes, count_by-le-length, sum_by-append}
use Rattle.std.proofs.Math.Seq.{take-add}
use Rattle.std.proofs.lemmas.Bool.Decides.{leb_tells}
use Rattle.hex.proofs.HexLemmas.{decode_of-encode_lower}
use Rattle.hex.specs.Hex.{decode_of}
use Rattle.ost_types.specs.Csum.{hex_of, IsHexSum}
use Rattle.ost_types.specs.Text.{IsName}
use Rattle.ost_types.proofs.HexSums.{IsHexSum-hex_of}
use Rattle.ost_types.specs.Path.{Name, Path, is_below, same_name, under}
use Rattle.ost_types.proofs.Paths.{is_below-self, is_below-under, same_name-Decides}
use Rattle.repo_layout.specs.OsName.{IsOsName}
use Rattle.repo_layout.specs.RefFile.{IsSum}
use Rattle.repo_layout.specs.BootPaths.{boot_folder_path}
use Rattle.repo_layout.specs.declared.fixed.Version.{Version}
use Rattle.repo_layout.specs.Fixed.{number}
use Rattle.boot_model.specs.declared.item.BootItem.{BootItem}
use Rattle.boot_model.specs.Items.{AreItems, IsAt, is_like, link_number}
use Rattle.boot_model.specs.Entries.{deploy_target, item_link_path}
use Rattle.folder_build.specs.declared.node.Content.{Content}
use Rattle.folder_build.specs.declared.node.Content.TheVariants.{Folder, Link}
use Rattle.folder_build.specs.declared.node.NewNode.{NewNode}
use Rattle.folder_build.specs.Node.{content_at}
use Rattle.folder_build.specs.Build.{IsPlan}
use Rattle.folder_build.proofs.Nodes.{push_here, push_found}
use Rattle.boot_plan.specs.Plans.{AreLaid, AreLinks, kernel_links_path, link_nodes, link_path, os_path}
use Rattle.boot_plan.proofs.Growing.{Grown, grown_none, grown_push, laid_none, laid_push, none_of_one, none_or_some, plan_of, push_cases}
use Rattle.boot_plan.proofs.Plain.{decimal-injective, decimal-name, digits-name, links_bounds, links_child, links_child_2, links_child_3, os-name}

-- ---- numbers

count_more : {X : Type 0} (p : X → Bool) (xs : List X) (i d : ℕ) → count_by p (take i xs) ≤ count_by p (take (i + d) xs)
count_more p xs i d =
    let e : count_by p (take (i + d) xs) ≡ count_by p (take i xs ++ take d (drop i xs)) = ap (count_by p) (take-add i d xs) in
    let f : count_by p (take i xs ++ take d (drop i xs)) ≡ count_by p (take i xs) + count_by p (take d (drop i xs)) = sum_by-append (λ x. if p x then 1 else 0) (take i xs) (take d (drop i xs)) in
    omega (arith, e, f)

sum_text : (sum : List ℕ) → IsSum sum → IsHexSum (hex_of sum)
sum_text sum is = IsHexSum-hex_of sum is.whole is.bytes

hex-injective : (a b : List ℕ) → IsSum a → IsSum b → hex_of a ≡ hex_of b → a ≡ b
hex-injective a b is has e =
    let f : Ok a ≡ Ok b = sym (decode_of-encode_lower a is.bytes) ∙ ap decode_of e ∙ decode_of-encode_lower b has.bytes in cc

-- ---- paths

path_parts : (top : Path) (a b c x y z : Name) → ((top ++ a ∷ []) ++ b ∷ []) ++ c ∷ [] ≡ ((top ++ x ∷ []) ++ y ∷ []) ++ z ∷ [] → (a ≡ x) × (b ≡ y) × (c ≡ z)
path_parts top a b c x y z e =
    let flat : (a b c : Name) → ((top ++ a ∷ []) ++ b ∷ []) ++ c ∷ [] ≡ top ++ (a ∷ b ∷ c ∷ []) = λ a b c. append_assoc (top ++ a ∷ []) (b ∷ []) (c ∷ []) ∙ append_assoc top (a ∷ []) (b ∷ c ∷ []) in
    let same : a ∷ b ∷ c ∷ [] ≡ x ∷ y ∷ z ∷ [] = append_cancel_left top (a ∷ b ∷ c ∷ []) (x ∷ y ∷ z ∷ []) (sym (flat a b c) ∙ e ∙ flat x y z) in
    let h : a ≡ x = cc in
    let t : b ∷ c ∷ [] ≡ y ∷ z ∷ [] = cc in
    let i : b ≡ y = cc in
    let u : c ∷ [] ≡ z ∷ [] = cc in
    (h, i, cc)

module _ (version sub : ℕ) (items : List BootItem) where
  pub link_same : (item : BootItem) (number : ℕ) → item_link_path version sub item number ≡ link_path version sub item number
  link_same item number =
      sym (append_assoc (os_path version sub item) (hex_of item.kernel.bootcsum ∷ []) (decimal number ∷ []) ∙ append_assoc (boot_folder_path version sub) (item.id.os ∷ []) (hex_of item.kernel.bootcsum ∷ decimal number ∷ []))

  long : (item : BootItem) (number : ℕ) → length (link_path version sub item number) ≡ length (boot_folder_path version sub) + 3
  long item number =
      omega (arith, length-append (kernel_links_path version sub item) (decimal number ∷ []), length-append (os_path version sub item) (hex_of item.kernel.bootcsum ∷ []), length-append (boot_folder_path version sub) (item.id.os ∷ []))

  -- with the links of the first members
  pub record SoFar (k : ℕ) (nodes : List NewNode) : Type 0 where
    pub grown : Grown (boot_folder_path version sub) nodes
    pub first : content_at nodes (boot_folder_path version sub) ≡ Some Folder
    pub each : (i : ℕ) (item : BootItem) → i < k → IsAt items i item → content_at nodes (link_path version sub item (link_number items i item)) ≡ Some (Link (deploy_target item.id))
    pub only : (p : Path) (c : Content) → content_at nodes p ≡ Some c
        → ((c ≡ Folder) × (length p ≤ length (boot_folder_path version sub) + 2)) ⊎ ((i : ℕ) × (item : BootItem) × (i < k) × IsAt items i item × (p ≡ link_path version sub item (link_number items i item)))

  -- a folder that isn't as deep as a link
  module _ (k : ℕ) (nodes : List NewNode) (so : SoFar k nodes) (f : Path) (x : Name) (has : content_at nodes f ≡ Some Folder)
      (below : is_below (boot_folder_path version sub) f ≡ true) (short : length (under f x) ≤ length (boot_folder_path version sub) + 2) where
    abbrev folder : NewNode
    folder = record { at = under f x; what = Folder }

    only_folder : (c : Content) → content_at nodes (under f x) ≡ Some c → c ≡ Folder
    only_folder c there = by (so.only (under f x) c there)
      where
        by : ((c ≡ Folder) × (length (under f x) ≤ length (boot_folder_path version sub) + 2)) ⊎ ((i : ℕ) × (item : BootItem) × (i < k) × IsAt items i item × (under f x ≡ link_path version sub item (link_number items i item))) → c ≡ Folder
        by (inl is) = is.0
        by (inr (i, item, less, at, is)) = absurd (omega (arith, short, ap length is, long item (link_number items i item)))

    free : (content_at nodes (under f x) ≡ None) ⊎ ((Folder ≡ Folder) × (content_at nodes (under f x) ≡ Some Folder))
    free = ⊎_elim (λ none. inl none) (λ w. inr (refl, w.1 ∙ ap Some (only_folder w.0 w.1))) (none_or_some (content_at nodes (under f x)))

    pub folder_found : content_at (nodes ++ record { at = under f x; what = Folder } ∷ []) (under f x) ≡ Some Folder
    folder_found = ⊎_elim (λ none. push_here nodes (record { at = under f x; what = Folder }) none) (λ w. push_found nodes (record { at = under f x; what = Folder }) (under f x) Folder w.1) free

    pub folder_pushed : SoFar k (nodes ++ record { at = under f x; what = Folder } ∷ [])
    folder_pushed = record {
      grown = grown_push (boot_folder_path version sub) nodes (record { at = under f x; what = Folder }) so.grown
          (record { below = is_below-under (boot_folder_path version sub) f x below; parent = inr (f, x, refl, has); free = free; target = tt });
      first = push_found nodes (record { at = under f x; what = Folder }) (boot_folder_path version sub) Folder so.first;
      each = λ i item less at. push_found nodes (record { at = under f x; what = Folder }) (link_path version sub item (link_number items i item)) (Link (deploy_target item.id)) (so.each i item less at);
      only = λ p c there. only p c (push_cases nodes (record { at = under f x; what = Folder }) p c there);
    }
      where
        only : (p : Path) (c : Content) → (content_at nodes p ≡ Some c) ⊎ ((under f x ≡ p) × (Folder ≡ c) × (content_at nodes p ≡ None))
            → ((c ≡ Folder) × (length p ≤ length (boot_folder_path version sub) + 2)) ⊎ ((i : ℕ) × (item : BootItem) × (i < k) × IsAt items i item × (p ≡ link_path version sub item (link_number items i item)))
        only p c (inl was) = so.only p c was
        only p c (inr (same, what, none)) = inl (sym what, subst (λ q. length q ≤ length (boot_folder_path version sub) + 2) same short)

  -- the link of the next member
  module _ (are : AreItems items) (k : ℕ) (item : BootItem) (at : IsAt items k item) (nodes : List NewNode) (so : SoFar k nodes)
      (has : content_at nodes (kernel_links_path version sub item) ≡ Some Folder) (target : deploy_target item.id ≢ []) where
    abbrev link : NewNode
    link = record { at = link_path version sub item (link_number items k item); what = Link (deploy_target item.id) }

    true_and : (a b : Bool) → a ≡ true → b ≡ true → a && b ≡ true
    true_and true true x y = refl
    true_and true false x y = let n : false ≡ true = y in cc
    true_and false b x y = let n : false ≡ true = x in cc

    -- a member before it with the same folder has a lesser number
    lesser : (i : ℕ) (a : BootItem) → i < k → IsAt items i a → a.id.os ≡ item.id.os → a.kernel.bootcsum ≡ item.kernel.bootcsum → link_number items i a < link_number items k item
    lesser i a less here os sum =
        let like : is_like item a ≡ true = true_and _ _ ((same_name-Decides item.id.os a.id.os).1 (sym os)) ((same_name-Decides item.kernel.bootcsum a.kernel.bootcsum).1 (sym sum)) in
        let same : link_number items i a ≡ count_by (λ other. is_like item other) (take i items) =
        ap (λ o. count_by (λ (other : BootItem). same_name o other.id.os && same_name a.kernel.bootcsum other.kernel.bootcsum) (take i items)) os
        ∙ ap (λ s. count_by (λ (other : BootItem). same_name item.id.os other.id.os && same_name s other.kernel.bootcsum) (take i items)) sum in
        let more : count_by (λ other. is_like item other) (take (i + 1) items) ≡ count_by (λ other. is_like item other) (take i items) + 1 =
        count_by_more_yes (λ other. is_like item other) items i a here.0 (ap (λ x. is_like item x) here.1 ∙ like) in
        let rest : i + 1 + (k - (i + 1)) ≡ k = omega (arith, less) in
        let grows : count_by (λ other. is_like item other) (take (i + 1) items) ≤ count_by (λ other. is_like item other) (take k items) =
        subst (λ n. count_by (λ other. is_like item other) (take (i + 1) items) ≤ count_by (λ other. is_like item other) (take n items)) rest (count_more (λ other. is_like item other) items (i + 1) (k - (i + 1))) in
        omega (arith, same, more, grows)

    small : (i : ℕ) (a : BootItem) → i < length items → link_number items i a ≤ 8
    small i a inside = omega (arith, are.few, count_by-le-length (λ other. is_like a other) (take i items), take_short i items)
      where
        take_short : (i : ℕ) (xs : List BootItem) → length (take i xs) ≤ length xs
        take_short zero [] = omega arith
        take_short (suc i) [] = omega arith
        take_short zero (x ∷ xs) = omega arith
        take_short (suc i) (x ∷ xs) = omega (arith, take_short i xs)

    not_yet : content_at nodes (link_path version sub item (link_number items k item)) ≡ None
    not_yet = by (none_or_some (content_at nodes (link_path version sub item (link_number items k item))))
      where
        taken : (c : Content) → ((c ≡ Folder) × (length (link_path version sub item (link_number items k item)) ≤ length (boot_folder_path version sub) + 2))
            ⊎ ((i : ℕ) × (a : BootItem) × (i < k) × IsAt items i a × (link_path version sub item (link_number items k item) ≡ link_path version sub a (link_number items i a))) → ⊥
        taken c (inl (is, short)) = omega (arith, short, long item (link_number items k item))
        taken c (inr (i, a, less, here, is)) =
            let p = path_parts (boot_folder_path version sub) item.id.os (hex_of item.kernel.bootcsum) (decimal (link_number items k item)) a.id.os (hex_of a.kernel.bootcsum) (decimal (link_number items i a)) is in
            let one : IsSum item.kernel.bootcsum = subst (λ (x : BootItem). IsSum x.kernel.bootcsum) at.1 (are.each k item at.0).bootcsum in
            let two : IsSum a.kernel.bootcsum = subst (λ (x : BootItem). IsSum x.kernel.bootcsum) here.1 (are.each i a here.0).bootcsum in
            let sums : item.kernel.bootcsum ≡ a.kernel.bootcsum = hex-injective item.kernel.bootcsum a.kernel.bootcsum one two p.1 in
            let numbers : link_number items k item ≡ link_number items i a = decimal-injective (link_number items k item) (link_number items i a) (small k item at.0) (small i a here.0) p.2 in
            omega (arith, numbers, lesser i a less here (sym p.0) (sym sums))

        by : (content_at nodes (link_path version sub item (link_number items k item)) ≡ None) ⊎ ((x : Content) × (content_at nodes (link_path version sub item (link_number items k item)) ≡ Some x)) → content_at nodes (link_path version sub item (link_number items k item)) ≡ None
        by (inl none) = none
        by (inr (x, there)) = absurd (taken x (so.only (link_path version sub item (link_number items k item)) x there))

    same_item : (a : BootItem) → IsAt items k a → a ≡ item
    same_item a here = sym here.1 ∙ get_or_default items k a item at.0 ∙ at.1

    pub link_pushed : SoFar (k + 1) (nodes ++ record { at = link_path version sub item (link_number items k item); what = Link (deploy_target item.id) } ∷ [])
    link_pushed = record {
      grown = grown_push (boot_folder_path version sub) nodes link so.grown
          (record {
            below = is_below-under (boot_folder_path version sub) (kernel_links_path version sub item) (decimal (link_number items k item))
                (is_below-under (boot_folder_path version sub) (os_path version sub item) (hex_of item.kernel.bootcsum)
                (is_below-under (boot_folder_path version sub) (boot_folder_path version sub) item.id.os (is_below-self (boot_folder_path version sub))));
            parent = inr (kernel_links_path version sub item, decimal (link_number items k item), refl, has);
            free = inl not_yet;
            target = target;
          });
      first = push_found nodes link (boot_folder_path version sub) Folder so.first;
      each = λ i a less here. each i a here (⊎_elim (λ q. inl q.1) (λ q. inr q.1) (leb_tells k i)) less;
      only = λ p c there. only p c (push_cases nodes link p c there);
    }
      where
        here_at : (i : ℕ) (a : BootItem) → i ≡ k → IsAt items i a → content_at (nodes ++ link ∷ []) (link_path version sub a (link_number items i a)) ≡ Some (Link (deploy_target a.id))
        here_at i a is here =
            let same = same_item a (subst (λ j. IsAt items j a) is here) in
            subst (λ j. content_at (nodes ++ link ∷ []) (link_path version sub a (link_number items j a)) ≡ Some (Link (deploy_target a.id))) (sym is)
            (subst (λ (b : BootItem). content_at (nodes ++ link ∷ []) (link_path version sub b (link_number items k b)) ≡ Some (Link (deploy_target b.id))) (sym same) (push_here nodes link not_yet))

        each : (i : ℕ) (a : BootItem) → IsAt items i a → (k ≤ i) ⊎ (i < k) → i < k + 1 → content_at (nodes ++ link ∷ []) (link_path version sub a (link_number items i a)) ≡ Some (Link (deploy_target a.id))
        each i a here (inl more) less = here_at i a (omega (arith, more, less)) here
        each i a here (inr before) less = push_found nodes link (link_path version sub a (link_number items i a)) (Link (deploy_target a.id)) (so.each i a before here)

        only : (p : Path) (c : Content) → (content_at nodes p ≡ Some c) ⊎ ((link_path version sub item (link_number items k item) ≡ p) × (Link (deploy_target item.id) ≡ c) × (content_at nodes p ≡ None))
            → ((c ≡ Folder) × (length p ≤ length (boot_folder_path version sub) + 2)) ⊎ ((i : ℕ) × (a : BootItem) × (i < k + 1) × IsAt items i a × (p ≡ link_path version sub a (link_number items i a)))
        only p c (inl was) = ⊎_elim (λ f. inl f) (λ o. inr (o.0, o.1, omega (arith, o.2), o.3, o.4)) (so.only p c was)
        only p c (inr (same, what, none)) = inr (k, item, omega arith, at, sym same)

  -- the folders and the link of the next member
  pub goes_on : AreItems items → (k : ℕ) (item : BootItem) → IsAt items k item → deploy_target item.id ≢ [] → (nodes : List NewNode) → SoFar k nodes → SoFar (k + 1) (nodes ++ link_nodes version sub items k item)
  goes_on are k item at target nodes so =
      let top = boot_folder_path version sub in
      let os = os_path version sub item in
      let kernel = kernel_links_path version sub item in
      let top_below = is_below-self top in
      let os_below : is_below top os ≡ true = is_below-under top top item.id.os top_below in
      let os_long : length os ≡ length top + 1 = length-append top (item.id.os ∷ []) in
      let kernel_long : length kernel ≡ length os + 1 = length-append os (hex_of item.kernel.bootcsum ∷ []) in
      let one = folder_pushed k nodes so top item.id.os so.first top_below (omega (arith, os_long)) in
      let one_has = folder_found k nodes so top item.id.os so.first top_below (omega (arith, os_long)) in
      let two = folder_pushed k (nodes ++ record { at = os; what = Folder } ∷ []) one os (hex_of item.kernel.bootcsum) one_has os_below (omega (arith, os_long, kernel_long)) in
      let two_has = folder_found k (nodes ++ record { at = os; what = Folder } ∷ []) one os (hex_of item.kernel.bootcsum) one_has os_below (omega (arith, os_long, kernel_long)) in
      let three = link_pushed are k item at ((nodes ++ record { at = os; what = Folder } ∷ []) ++ record { at = kernel; what = Folder } ∷ []) two two_has target in
      subst (SoFar (k + 1))
      (append_assoc (nodes ++ record { at = os; what = Folder } ∷ []) (record { at = kernel; what = Folder } ∷ []) (record { at = link_path version sub item (link_number items k item); what = Link (deploy_target item.id) } ∷ [])
      ∙ append_assoc nodes (record { at = os; what = Folder } ∷ []) (record { at = kernel; what = Folder } ∷ record { at = link_path version sub item (link_number items k item); what = Link (deploy_target item.id) } ∷ []))
      three

  pub are_links : (nodes : List NewNode) → SoFar (length items) nodes → AreLinks version sub items nodes
  are_links nodes so i item at = ap (content_at nodes) (link_same item (link_number items i item)) ∙ so.each i item at.0 at

  root_not : boot_folder_path version sub ≢ []
  unfolding boot_folder_path
  root_not e = cc

  pub is_plan : (nodes : List NewNode) (k : ℕ) → SoFar k nodes → IsPlan (boot_folder_path version sub) nodes
  is_plan nodes k so = plan_of (boot_folder_path version sub) nodes root_not (λ e. let no : None ≡ Some Folder = sym (ap (λ m. content_at m (boot_folder_path version sub)) e) ∙ so.first in cc) so.grown

  pub begins : SoFar 0 (record { at = boot_folder_path version sub; what = Folder } ∷ [])
  begins = record {
    grown = grown_push (boot_folder_path version sub) [] (record { at = boot_folder_path version sub; what = Folder }) (grown_none (boot_folder_path version sub))
        (record { below = is_below-self (boot_folder_path version sub); parent = inl refl; free = inl refl; target = tt });
    first = push_here [] (record { at = boot_folder_path version sub; what = Folder }) refl;
    each = λ i item less at. absurd (omega (arith, less));
    only = λ p c has. only p c (push_cases [] (record { at = boot_folder_path version sub; what = Folder }) p c has);
  }
    where
      only : (p : Path) (c : Content) → (content_at [] p ≡ Some c) ⊎ ((boot_folder_path version sub ≡ p) × (Folder ≡ c) × (content_at [] p ≡ None))
          → ((c ≡ Folder) × (length p ≤ length (boot_folder_path version sub) + 2)) ⊎ ((i : ℕ) × (a : BootItem) × (i < 0) × IsAt items i a × (p ≡ link_path version sub a (link_number items i a)))
      only p c (inl none) = let n : ◌≡◌ {A = Option Content} None (Some c) = none in cc
      only p c (inr (same, what, none)) = inl (sym what, subst (λ q. length q ≤ length (boot_folder_path version sub) + 2) same (omega arith))

-- where they lie
module _ (version sub : Version) (items : List BootItem) where
  abbrev links_top : Path
  links_top = boot_folder_path (number version) (number sub)

  pub laid_begins : AreLaid (links_top ∷ []) (record { at = links_top; what = Folder } ∷ [])
  laid_begins = laid_push (links_top ∷ []) [] (record { at = links_top; what = Folder }) (laid_none (links_top ∷ [])) (links_bounds version sub) (λ among. refl)

  pub laid_goes_on : AreItems items → (k : ℕ) (item : BootItem) → IsAt items k item → (nodes : List NewNode) → AreLaid (links_top ∷ []) nodes → AreLaid (links_top ∷ []) (nodes ++ link_nodes (number version) (number sub) items k item)
  laid_goes_on are k item at nodes laid =
      let is = are.each k item at.0 in
      let os : IsName item.id.os = os-name item.id.os (subst (λ (x : BootItem). IsOsName x.id.os) at.1 is.os) in
      let sum : IsName (hex_of item.kernel.bootcsum) = digits-name (hex_of item.kernel.bootcsum) (sum_text item.kernel.bootcsum (subst (λ (x : BootItem). IsSum x.kernel.bootcsum) at.1 is.bootcsum)) in
      let l = link_number items k item in
      let small : l < 8 = omega (arith, are.few, at.0, count_by-le-length (λ other. is_like item other) (take k items), length-take-le k items (omega (arith, at.0))) in
      let number_is : IsName (decimal l) = decimal-name l small in
      let a : NewNode = record { at = os_path (number version) (number sub) item; what = Folder } in
      let b : NewNode = record { at = kernel_links_path (number version) (number sub) item; what = Folder } in
      let c : NewNode = record { at = link_path (number version) (number sub) item l; what = Link (deploy_target item.id) } in
      let one = laid_push (links_top ∷ []) nodes a laid (links_child version sub item.id.os os) (λ among. refl) in
      let two = laid_push (links_top ∷ []) (nodes ++ a ∷ []) b one (links_child_2 version sub item.id.os (hex_of item.kernel.bootcsum) os sum) (λ among. refl) in
      let long_link : length (link_path (number version) (number sub) item l) ≡ length links_top + 3 = long (number version) (number sub) items item l in
      let three = laid_push (links_top ∷ []) ((nodes ++ a ∷ []) ++ b ∷ []) c two (links_child_3 version sub item.id.os (hex_of item.kernel.bootcsum) (decimal l) os sum number_is)
      (λ among. absurd (none_of_one links_top (link_path (number version) (number sub) item l) (λ e. omega (arith, ap length e, long_link)) among)) in
      subst (AreLaid (links_top ∷ [])) (append_assoc (nodes ++ a ∷ []) (b ∷ []) (c ∷ []) ∙ append_assoc nodes (a ∷ []) (b ∷ c ∷ [])) three

-- as they are put together
pub links_pushed : (version sub : ℕ) (items : List BootItem) (k : ℕ) (item x : BootItem) → IsAt items k item → x ≡ get_or items k x
    → (top os kernel at : Path) (o s l : Name) (number : ℕ) (target : List ℕ) → top ≡ boot_folder_path version sub → o ≡ x.id.os → os ≡ under top o → s ≡ hex_of x.kernel.bootcsum → kernel ≡ under os s
    → l ≡ decimal number → number ≡ link_number items k item → at ≡ under kernel l → target ≡ deploy_target x.id
    → (a b c d : List NewNode) → b ≡ a ++ record { at = os; what = Folder } ∷ [] → c ≡ b ++ record { at = kernel; what = Folder } ∷ [] → d ≡ c ++ record { at = at; what = Link target } ∷ []
    → d ≡ a ++ link_nodes version sub items k item
links_pushed version sub items k item x is read top os kernel at o s l number target top_is o_is os_at s_is kernel_at l_is number_is at_is target_is a b c d first second third =
    let same : x ≡ item = read ∙ get_or_default items k x item is.0 ∙ is.1 in
    let os_is : os ≡ os_path version sub item = os_at ∙ ap (λ p. under p o) top_is ∙ ap (λ n. under (boot_folder_path version sub) n) (o_is ∙ ap (λ (y : BootItem). y.id.os) same) in
    let kernel_is : kernel ≡ kernel_links_path version sub item = kernel_at ∙ ap (λ p. under p s) os_is ∙ ap (λ n. under (os_path version sub item) n) (s_is ∙ ap (λ (y : BootItem). hex_of y.kernel.bootcsum) same) in
    let link_is : at ≡ link_path version sub item (link_number items k item) = at_is ∙ ap (λ p. under p l) kernel_is ∙ ap (λ n. under (kernel_links_path version sub item) n) (l_is ∙ ap decimal number_is) in
    let what_is : target ≡ deploy_target item.id = target_is ∙ ap (λ (y : BootItem). deploy_target y.id) same in
    third ∙ ap (λ m. m ++ record { at = at; what = Link target } ∷ []) (second ∙ ap (λ m. m ++ record { at = kernel; what = Folder } ∷ []) first)
    ∙ append_assoc (a ++ record { at = os; what = Folder } ∷ []) (record { at = kernel; what = Folder } ∷ []) (record { at = at; what = Link target } ∷ [])
    ∙ append_assoc a (record { at = os; what = Folder } ∷ []) (record { at = kernel; what = Folder } ∷ record { at = at; what = Link target } ∷ [])
    ∙ ap (λ p. a ++ (record { at = p; what = Folder } ∷ record { at = kernel; what = Folder } ∷ record { at = at; what = Link target } ∷ [])) os_is
    ∙ ap (λ p. a ++ (record { at = os_path version sub item; what = Folder } ∷ record { at = p; what = Folder } ∷ record { at = at; what = Link target } ∷ [])) kernel_is
    ∙ ap (λ p. a ++ (record { at = os_path version sub item; what = Folder } ∷ record { at = kernel_links_path version sub item; what = Folder } ∷ record { at = p; what = Link target } ∷ [])) link_is
    ∙ ap (λ t. a ++ (record { at = os_path version sub item; what = Folder } ∷ record { at = kernel_links_path version sub item; what = Folder } ∷ record { at = link_path version sub item (link_number items k item); what = Link t } ∷ [])) what_is
