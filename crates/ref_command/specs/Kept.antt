-- What others write is harmless to a change of a ref.
use Rattle.std.proofs.Common.{◌≡◌, ◌≢◌, ⊎_elim, ◌<◌, ℕ, true, false, refl, sym, ◌∙◌, ap, subst, arith, List, [], ◌++◌, append-nil, append_assoc, Option, Some, None}
use Rattle.ost_types.specs.Path.{Path, is_in, is_below}
use Rattle.ost_types.proofs.Paths.{is_below-self}
use Rattle.fs_trait.specs.View.{View}
use Rattle.fs_trait.specs.Seen.{Seen, NotDirectory}
use Rattle.fs_trait.specs.Change.{Writes, LeadsTo}
use Rattle.fs_trait.proofs.Kept.{meets_kept}
use Rattle.fs_trait.proofs.Facts.{shows_kept}
use Rattle.repo_layout.specs.RefName.{parts_of}
use Rattle.repo_layout.specs.declared.folder.Folder.TheVariants as folder
use Rattle.repo_layout.specs.Paths.{folder_path, heads, ref_path, stage_path}
use Rattle.repo_layout.specs.Place.{Ref, Stage, place}
use Rattle.repo_layout.proofs.Places.{place-stage}
use Rattle.ref_room.specs.Clash.{way_to}
use Rattle.ref_room.specs.Clearing.{IsUnder}
use Rattle.ref_room.proofs.Names.{way_to-below}
use Rattle.staged_file.specs.declared.phase.Phase as staged
use Rattle.staged_file.specs.declared.phase.Phase.TheVariants as file
use Rattle.ref_store.specs.declared.phase.Phase.{Phase}
use Rattle.ref_store.specs.declared.phase.Phase.TheVariants as phase
use Rattle.ref_store.specs.Change.{Change}
use Rattle.ref_store.specs.Steps.{Needs, needs_in, awaits, begins, HasSeen, HereOfStage}
use Rattle.ref_store.proofs.StepLemmas.{meets_in}
use Rattle.ref_store.proofs.RoomLemmas.{home_is}
use Rattle.ref_store.proofs.Stable.{Spares, ref_kept}
use Rattle.ref_store.proofs.Seen.{seen_kept}
use Rattle.rely_guarantee.specs.declared.event.Event.{Event}
use Rattle.rely_guarantee.specs.Books.{Books, Keeps}
use Rattle.rely_guarantee.specs.Rely.{Guarantee, Interference}
use Rattle.rely_guarantee.specs.Laws.{Kind, Quiet, Store, Take, Claim, Publish, Published, Remove, MakeDurable}
use Rattle.layout_rules.proofs.Layouts.{above_ref, fixed_other, in_heads}
use Rattle.rely_guarantee.proofs.Mays.{folders_harmless, not_other, own_harmless, ref_leads_harmless, at_place, stage_apart}
use Rattle.ref_command.specs.Kinds.{event, kind_in, put_kind}
use Rattle.ref_command.specs.Facts.{turn_in, Facts, StagingPathFree}

-- where a lane stages
pub stage_is : (t : Change) (lane : ℕ) → t.actor < 16 → t.actor ≡ lane → place (stage_path t.actor) ≡ Stage lane
stage_is t lane few mine = subst (λ p. place p ≡ Stage t.actor) (append-nil (stage_path t.actor)) (place-stage t.actor [] (omega (arith, few))) ∙ ap Stage mine

-- its folder is one of the layout's
pub stage_folder : (actor : ℕ) (p : Path) → is_in p (stage_path actor) ≡ true → is_below p (folder_path folder.Tmp) ≡ true
stage_folder actor p in_ = subst (λ q. is_below q (folder_path folder.Tmp) ≡ true) (sym (home_is actor p in_)) (is_below-self (folder_path folder.Tmp))

pub put_turn : (ph : staged.Phase) (e : Event) (lane : ℕ) (b : Books) → turn_in (put_kind ph e) lane b → b.turn ≡ Some lane
put_turn file.Clear e lane b turn = turn
put_turn file.Create e lane b turn = turn
put_turn file.Append e lane b turn = turn
put_turn file.SyncFile e lane b turn = turn
put_turn file.Look e lane b turn = turn
put_turn file.Replace e lane b turn = turn
put_turn file.SyncFolder e lane b turn = turn
put_turn file.Ended e lane b turn = turn

turn_more : (k : Kind) (lane : ℕ) (b b' : Books) → (b.turn ≡ Some lane → b'.turn ≡ Some lane) → turn_in k lane b → turn_in k lane b'
turn_more Quiet lane b b' still turn = still turn
turn_more Store lane b b' still turn = still turn
turn_more (Take wants) lane b b' still turn = tt
turn_more (Claim name) lane b b' still turn = still turn
turn_more (Publish e) lane b b' still turn = still turn
turn_more (Published e owed) lane b b' still turn = still turn
turn_more (Remove e owed) lane b b' still turn = still turn
turn_more (MakeDurable e) lane b b' still turn = still turn

-- what the lane gains is no harm
pub facts_gain : (lane : ℕ) (t : Change) (v : View) (b b' : Books) → Keeps lane b b' → Facts lane t v b → Facts lane t v b'
facts_gain lane t v b b' keeps f = record { needs = f.needs; mine = f.mine; runs = f.runs; turn = turn_more (kind_in t.phase (event t)) lane b b' keeps.turn f.turn; seen = f.seen }

module _ (b : Books) (v : View) (actor lane mine : ℕ) (not : mine ≢ actor) (other : mine ≢ lane) where
  abbrev W : Path → Seen → Type 0
  W = Guarantee b v actor lane

  -- nobody else writes below the folder of refs while the lane has the ref lock
  heads_apart : b.turn ≡ Some mine → (rest : Path) (s : Seen) → W (heads ++ rest) s → ⊥
  heads_apart turn rest s wrote = ⊎_elim
      (λ is. not_other b v actor lane (heads ++ rest) s is wrote)
      (λ r. other ((at_place b v actor lane (heads ++ rest) s (Ref r.0) r.1 wrote).0 mine turn))
      (in_heads rest)

  under_apart : b.turn ≡ Some mine → (name : List ℕ) (p : Path) (s : Seen) → IsUnder name p → W p s → ⊥
  unfolding ref_path
  under_apart turn name p s under wrote = heads_apart turn (parts_of name ++ under.0) s (subst (λ q. W q s) (under.1 ∙ append_assoc heads (parts_of name) under.0) wrote)

  way_apart : b.turn ≡ Some mine → (name : List ℕ) (k : ℕ) (s : Seen) → W (way_to k name) s → ⊥
  way_apart turn name k s wrote = ⊎_elim
      (λ is. not_other b v actor lane (way_to k name) s is wrote)
      (λ r. other ((at_place b v actor lane (way_to k name) s (Ref r.0) r.1 wrote).0 mine turn))
      (above_ref name (way_to k name) (way_to-below k name))

  module _ (t : Change) (needs : Needs t v) (own : t.actor ≡ mine) where
    stage_free : (s : Seen) → W (stage_path t.actor) s → ⊥
    stage_free s wrote = stage_apart b v actor lane mine (stage_path t.actor) (stage_path t.actor) s not (stage_is t mine needs.actor own) wrote refl

    folder_free : (p : Path) (s : Seen) → is_in p (stage_path t.actor) ≡ true → W p s → ⊥
    folder_free p s in_ wrote = not_other b v actor lane p s (fixed_other folder.Tmp p (stage_folder t.actor p in_)) wrote

    spares : b.turn ≡ Some mine → Spares W t v
    spares turn = record {
      stage = stage_free;
      parents = λ p s in_ here wrote. absurd (folder_free p s in_ wrote);
      own = λ n is was. own_harmless b v actor lane mine (stage_path t.actor) n not (stage_is t mine needs.actor own) is was;
      under = under_apart turn t.name;
      leads = λ k less was. ref_leads_harmless b v actor lane mine t.name (way_to k t.name) turn other (way_to-below k t.name);
      folders = λ k s less wrote. absurd (way_apart turn t.name k s wrote);
    }

    -- before the look the ref lock isn't needed
    begins_kept : (o : Option (List ℕ)) (w : View) → Writes W v w → begins o t.actor v → begins o t.actor w
    begins_kept None w writes was = tt
    begins_kept (Some commit) w writes was = meets_kept W (LeadsTo heads) (HereOfStage t.actor) v w writes
        (folders_harmless b v actor lane folder.Heads)
        (λ p s wrote. ((λ e. absurd (stage_free s (subst (λ q. W q s) e wrote))), λ in_. absurd (folder_free p s in_ wrote)))
        was

    look_kept : t.phase ≡ phase.Look → (w : View) → Writes W v w → Needs t w
    look_kept is w writes = record {
      named = needs.named;
      actor = needs.actor;
      made = needs.made;
      meets = subst (λ ph. needs_in ph t w) (sym is) (begins_kept t.value w writes (meets_in t v needs phase.Look is));
    }

    needs_kept : (ph : Phase) → t.phase ≡ ph → (e : Event) → turn_in (kind_in ph e) mine b → (w : View) → Writes W v w → Needs t w
    needs_kept phase.Look is e turn w writes = look_kept is w writes
    needs_kept (phase.Clear c) is e turn w writes = ref_kept W t v (spares turn) needs w writes
    needs_kept (phase.Walk y) is e turn w writes = ref_kept W t v (spares turn) needs w writes
    needs_kept (phase.Put f) is e turn w writes = ref_kept W t v (spares (put_turn f.phase e mine b turn)) needs w writes
    needs_kept phase.Unlink is e turn w writes = ref_kept W t v (spares turn) needs w writes
    needs_kept phase.SyncFolder is e turn w writes = ref_kept W t v (spares turn) needs w writes
    needs_kept phase.Ended is e turn w writes = ref_kept W t v (spares turn) needs w writes

    -- the ref keeps the value that was seen
    seen_still : (ph : Phase) → t.phase ≡ ph → (e : Event) → turn_in (kind_in ph e) mine b → (w : View) → Writes W v w → HasSeen t v → HasSeen t w
    seen_still phase.Look is e turn w writes seen = λ goes. let n : false ≡ true = sym (ap awaits is) ∙ goes in cc
    seen_still (phase.Clear c) is e turn w writes seen = seen_kept W t v w (spares turn) writes seen
    seen_still (phase.Walk y) is e turn w writes seen = seen_kept W t v w (spares turn) writes seen
    seen_still (phase.Put f) is e turn w writes seen = seen_kept W t v w (spares (put_turn f.phase e mine b turn)) writes seen
    seen_still phase.Unlink is e turn w writes seen = seen_kept W t v w (spares turn) writes seen
    seen_still phase.SyncFolder is e turn w writes seen = seen_kept W t v w (spares turn) writes seen
    seen_still phase.Ended is e turn w writes seen = seen_kept W t v w (spares turn) writes seen

  -- the facts of a change survive what others do
  pub facts_kept : (t : Change) (w : View) (b' : Books) → Facts mine t v b → Interference actor lane v b w b' → Facts mine t w b'
  facts_kept t w b' f does = record {
    needs = needs_kept t f.needs f.mine t.phase refl (event t) f.turn w does.writes;
    mine = f.mine;
    runs = f.runs;
    turn = turn_more (kind_in t.phase (event t)) mine b b' (does.books.turn mine other) f.turn;
    seen = seen_still t f.needs f.mine t.phase refl (event t) f.turn w does.writes f.seen;
  }

  -- and so does what is so of a lane without a task
  pub home_kept : mine < 16 → (w : View) (b' : Books) → Interference actor lane v b w b' → StagingPathFree mine v → StagingPathFree mine w
  home_kept few w b' does home =
      let at : place (stage_path mine) ≡ Stage mine = subst (λ p. place p ≡ Stage mine) (append-nil (stage_path mine)) (place-stage mine [] (omega (arith, few))) in
      subst NotDirectory (sym (shows_kept W v w (stage_path mine) does.writes (λ s wrote. stage_apart b v actor lane mine (stage_path mine) (stage_path mine) s not at wrote refl))) home
