-- The moments of a record.
use Rattle.std.proofs.Common.{◌≡◌, ◌≢◌, ◌⊎◌, inl, inr, ℕ, zero, suc, ◌+◌, ◌-◌, ◌<◌, ◌≤◌, refl, sym, ◌∙◌, ap, subst, List, [], ◌∷◌, ◌++◌, length, take, arith, length-append, Some}
use Rattle.ost_types.specs.Path.{Path}
use Rattle.ost_types.proofs.Paths.{under-not_root}
use Rattle.fs_trait.specs.declared.types.Value.TheVariants.{Absent, Folder, File}
use Rattle.fs_trait.specs.View.{View}
use Rattle.fs_trait.specs.Image.{is_folder, IsTree, Holds}
use Rattle.fs_trait.specs.Effect.{Elapses}
use Rattle.memory_record.specs.declared.change.Change.{Change}
use Rattle.memory_record.specs.declared.change.Change.TheVariants.{Nothing}
use Rattle.memory_record.specs.Changes.{view_of, Was, IsSound, SoundSince, empty_view, root_meta}
use Rattle.memory_record.specs.Laws.{take_whole}
use Rattle.memory_record.proofs.Applied.{apply_nothing}
use Rattle.memory_record.proofs.Records.{view_of-push, view_of-none, empty_at-root, empty_at-below, empty_older, empty_root}

take_front : (k : ℕ) (cs : List Change) (c : Change) → k ≤ length cs → take k (cs ++ c ∷ []) ≡ take k cs
take_front zero cs c h = refl
take_front (suc k) [] c h = absurd (omega arith)
take_front (suc k) (d ∷ cs) c h = ap (λ l. d ∷ l) (take_front k cs c (omega arith))

le_or : (a b : ℕ) → (a ≤ b) ⊎ (b + 1 ≤ a)
le_or a b = grind arith

pushed_elapses : (b : ℕ) (cs : List Change) (c : Change) → b ≤ length cs → Elapses (length cs - b) (length (cs ++ c ∷ []) - b) (λ t v. Was cs (b + t) v) (λ t v. Was (cs ++ c ∷ []) (b + t) v) (Some (view_of (cs ++ c ∷ [])))
pushed_elapses b cs c begun =
    let l : length (cs ++ c ∷ []) ≡ length cs + 1 = length-append cs (c ∷ []) in
    record {
      later = omega (arith, l);
      soon = omega (arith, l, begun);
      nothing_else = λ t w le was. moment (b + t) w was (le_or (was.moment) (length cs));
      keeps = λ t w le was. record { moment = was.moment; since = was.since; until = let u : was.moment ≤ length cs = was.until in omega (arith, l, u); is = was.is ∙ ap view_of (sym (take_front was.moment cs c was.until)) };
    }
  where
    moment : (t : ℕ) (w : View) (was : Was (cs ++ c ∷ []) t w) → (was.moment ≤ length cs) ⊎ (length cs + 1 ≤ was.moment) → Was cs t w ⊎ (Some (view_of (cs ++ c ∷ [])) ≡ Some w)
    moment t w was (inl le) = inl (record { moment = was.moment; since = was.since; until = le; is = was.is ∙ ap view_of (take_front was.moment cs c le) })
    moment t w was (inr gt) =
        let l : length (cs ++ c ∷ []) ≡ length cs + 1 = length-append cs (c ∷ []) in
        let u : was.moment ≤ length (cs ++ c ∷ []) = was.until in
        let k : was.moment ≡ length (cs ++ c ∷ []) = omega (arith, l, u, gt) in
        inr (ap Some (sym (was.is ∙ ap (λ j. view_of (take j (cs ++ c ∷ []))) k ∙ ap view_of (take_whole (cs ++ c ∷ [])))))

pub elapses_push : (b : ℕ) (cs new : List Change) (c : Change) → b ≤ length cs → new ≡ cs ++ c ∷ [] → Elapses (length cs - b) (length new - b) (λ t v. Was cs (b + t) v) (λ t v. Was new (b + t) v) (Some (view_of new))
elapses_push b cs new c begun is = subst (λ l. Elapses (length cs - b) (length l - b) (λ t v. Was cs (b + t) v) (λ t v. Was l (b + t) v) (Some (view_of l))) (sym is) (pushed_elapses b cs c begun)

pub sound_now : (b : ℕ) (cs : List Change) → b ≤ length cs → SoundSince b cs → IsSound cs
sound_now b cs begun sound = subst IsSound (take_whole cs) (sound (length cs) begun (omega arith))

pub sound_push : (b : ℕ) (cs : List Change) (c : Change) → b ≤ length cs → SoundSince b cs → IsSound (cs ++ c ∷ []) → SoundSince b (cs ++ c ∷ [])
sound_push b cs c begun sound now k low high = go (le_or k (length cs))
  where
    go : (k ≤ length cs) ⊎ (length cs + 1 ≤ k) → IsSound (take k (cs ++ c ∷ []))
    go (inl le) = subst IsSound (sym (take_front k cs c le)) (sound k low le)
    go (inr gt) =
        let l : length (cs ++ c ∷ []) ≡ length cs + 1 = length-append cs (c ∷ []) in
        let e : k ≡ length (cs ++ c ∷ []) = omega (arith, l, high, gt) in
        subst (λ j. IsSound (take j (cs ++ c ∷ []))) (sym e) (subst IsSound (sym (take_whole (cs ++ c ∷ []))) now)

-- nothing is recorded but that time goes by
pub sound-Nothing : (cs : List Change) → IsSound cs → IsSound (cs ++ Nothing ∷ [])
sound-Nothing cs sound =
    let same : view_of cs ≡ view_of (cs ++ Nothing ∷ []) = sym (view_of-push cs Nothing ∙ apply_nothing (view_of cs)) in
    let l : length (cs ++ Nothing ∷ []) ≡ length cs + 1 = length-append cs (Nothing ∷ []) in
    record {
      tree = subst (λ (w : View). IsTree w.now) same sound.tree;
      numbered = λ q n holds. let below : n < length cs = sound.numbered q n (subst (λ v. Holds v q (File n)) (sym same) holds) in omega (arith, l, below);
      root = subst (λ (w : View). w.older [] ≡ []) same sound.root;
    }

pub empty_sound : (cs : List Change) → cs ≡ [] → SoundSince 0 cs
empty_sound cs is k low high = subst IsSound (sym (front ∙ is)) empty
  where
    front : take k cs ≡ cs
    front = let l : length cs ≡ 0 = ap length is in let e : k ≡ length cs = omega (arith, l, high) in ap (λ j. take j cs) e ∙ take_whole cs

    none : (q : Path) (n : ℕ) → (q ≡ []) ⊎ (q ≢ []) → Holds empty_view q (File n) → ⊥
    none q n (inl e) (inl is) = let f : File n ≡ Folder root_meta = is ∙ ap empty_view.now.at e ∙ empty_at-root in cc
    none q n (inr below) (inl is) = let f : File n ≡ Absent = is ∙ empty_at-below q below in cc
    none q n any (inr among) = empty_older q (File n) among

    root_or : (q : Path) → (q ≡ []) ⊎ (q ≢ [])
    root_or [] = inl refl
    root_or (x ∷ q) = inr (λ e. cc)

    empty : IsSound []
    empty = record {
      tree = record {
        root = ap (λ (v : View). is_folder (v.now.at [])) view_of-none ∙ ap is_folder empty_at-root;
        folders = λ f x none. ap (λ (v : View). v.now.at (f ++ x ∷ [])) view_of-none ∙ empty_at-below (f ++ x ∷ []) (under-not_root f x);
      };
      numbered = λ q n holds. absurd (none q n (root_or q) (subst (λ v. Holds v q (File n)) view_of-none holds));
      root = ap (λ (v : View). v.older []) view_of-none ∙ empty_root;
    }

-- a record that begins anew
pub sound_whole : (cs : List Change) → IsSound cs → SoundSince (length cs) cs
sound_whole cs sound k low high = let e : k ≡ length cs = omega (arith, low, high) in subst IsSound (sym (ap (λ j. take j cs) e ∙ take_whole cs)) sound

-- the record at a moment
pub sound_at : (b : ℕ) (cs : List Change) (t : ℕ) → b ≤ length cs → SoundSince b cs → t ≤ length cs - b → IsSound (take (b + t) cs)
sound_at b cs t begun sound le = sound (b + t) (omega arith) (omega (arith, begun, le))
