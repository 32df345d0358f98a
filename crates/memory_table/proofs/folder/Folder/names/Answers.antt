use Rattle.std.proofs.Common.{◌≡◌, ◌↔◌, ◌≢◌, ℕ, suc, List, [], ◌∷◌, ◌++◌, map, sym, ◌∙◌, ap, subst, None, All, Contains, append_assoc, append-nil, arith}
use Rattle.std.specs.Global.{Vec}
use Rattle.std.specs.List.Sorted.{IsStrictlySortedBy}
use Rattle.ost_types.specs.Text.{IsName}
use Rattle.memory_table.specs.Bytes.{at_bytes}
use Rattle.memory_table.proofs.Keyed.{order, all_keys, there, ascending}
use Rattle.memory_table.proofs.folder.Folder.names.Invariants.{Listed}
use Rattle.memory_table.proofs.folder.Folder.names.Goals as goal

abbrev bytes : List (Vec ℕ) → List (List ℕ)
bytes ks = map (λ k. k.items) ks

pub loop-key-init : goal.loop-key-init
loop-key-init g c =
    let e = c.into_iter-key-iterator.ensures.into_iter_gives ∙ c.keys-key-items.ensures.rest in
    record {
      so_far = ap (λ (l : List (List ℕ)). l ++ bytes c.into_iter-key-iterator.result) c.new-listed.ensures.items ∙ ap bytes e;
      named = subst (All (λ k. ∥ IsName k.items ∥₁)) (sym e) (all_keys c.args.self.now.values (λ x. ∥ IsName x ∥₁) c.args.self.now.named);
    }

pub name_of-requires : goal.name_of-requires
name_of-requires g c = subst (λ t. ∥ IsName t ∥₁) (sym c.as_slice.ensures.value) (first c.in-Some.key.now c.next.new.self (subst (All (λ k. ∥ IsName k.items ∥₁)) c.in-Some.ensures.steps c.loop-key.invariant.named))
  where
    first : (k : Vec ℕ) (ks : List (Vec ℕ)) → All (λ k. ∥ IsName k.items ∥₁) (k ∷ ks) → ∥ IsName k.items ∥₁
    first k ks all = all 0 k (omega arith)

pub loop-key-preserved : goal.loop-key-preserved
loop-key-preserved g c = step c.loop-key.listed.items c.push.new.self.items _ c.in-Some.key.now c.loop-key.key-iterator c.next.new.self _ c.in_ok-push.ensures.items (c.in_ok-name_of.ensures ∙ c.as_slice.ensures.value) c.in-Some.ensures.steps c.loop-key.invariant
  where
    step : (l m : List (List ℕ)) (n : List ℕ) (k : Vec ℕ) (before after all : List (Vec ℕ)) → m ≡ l ++ (n ∷ []) → n ≡ k.items → before ≡ k ∷ after → Listed l before all → Listed m after all
    step l m n k before after all pushed name steps was = record {
      so_far = ap (λ x. x ++ bytes after) pushed ∙ append_assoc l (n ∷ []) (bytes after) ∙ ap (λ x. l ++ (x ∷ bytes after)) name ∙ ap (λ ks. l ++ bytes ks) (sym steps) ∙ was.so_far;
      named = rest k after (subst (All (λ k. ∥ IsName k.items ∥₁)) steps was.named);
    }
      where
        rest : (k : Vec ℕ) (ks : List (Vec ℕ)) → All (λ k. ∥ IsName k.items ∥₁) (k ∷ ks) → All (λ k. ∥ IsName k.items ∥₁) ks
        rest k ks all i d less = all (suc i) d (omega (arith, less))

ended : (l : List (List ℕ)) (rest all : List (Vec ℕ)) → rest ≡ [] → Listed l rest all → l ≡ bytes all
ended l rest all none was = sym (append-nil l) ∙ ap (λ ks. l ++ bytes ks) (sym none) ∙ was.so_far

pub returns-clause-ascending : goal.returns-clause-ascending
returns-clause-ascending g c = subst (λ l. IsStrictlySortedBy order l) (sym (c.from_vec.ensures ∙ ended c.loop-key.listed.items c.loop-key.key-iterator _ c.in-None.ensures.steps.0 c.loop-key.invariant)) (ascending _ c.keys-key-items.ensures.ordered)

pub returns-clause-exact : goal.returns-clause-exact
returns-clause-exact g c = λ x. subst (λ l. Contains l x ↔ (at_bytes c.args.self.now.values x ≢ None)) (sym (c.from_vec.ensures ∙ ended c.loop-key.listed.items c.loop-key.key-iterator _ c.in-None.ensures.steps.0 c.loop-key.invariant)) (there c.args.self.now.values x)
