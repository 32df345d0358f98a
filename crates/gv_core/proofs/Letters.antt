-- A text that is read as a kind is its spelling.
use Rattle.std.proofs.Common.{◌≡◌, ℕ, Bool, true, false, cond, eqb, List, [], ◌∷◌, ◌++◌, Option, Some, refl, sym, ap, ◌∙◌, append_assoc, inl, inr, ◌⊎◌}
use Rattle.std.specs.Prelude.{option_map}
use Rattle.std.proofs.lemmas.Bool.{eqb-true}
use Rattle.std.proofs.lemmas.List.{append-nil}
use Rattle.gv_core.specs.declared.kind.Basic.{Basic}
use Rattle.gv_core.specs.declared.kind.Basic.TheVariants as b
use Rattle.gv_core.specs.Kind.{Kind, Kinds, basic, variant, array, maybe, tuple, entry, no_kinds, kind, letter, spell, spell_all, Item, one, round, curly, basic_of, wrap, gather, pair_up, read_letter, items_at, only, kind_of}
use Rattle.gv_core.proofs.Sizes.{bind_some, map_some, some_is, none_some}

-- the text of what stands on the stack
unfoldable unstack : List Item → List ℕ
unstack [] = []
unstack (one k ∷ st) = spell k ++ unstack st
unstack (round ∷ st) = 41 ∷ unstack st
unstack (curly ∷ st) = 125 ∷ unstack st

either : {A : Type 0} (b : Bool) (x y : Option A) (z : A) → cond b x y ≡ Some z → ((b ≡ true) × (x ≡ Some z)) ⊎ (y ≡ Some z)
either true x y z e = inl (refl, e)
either false x y z e = inr e

basic_sound : (c : ℕ) (x : Basic) → basic_of c ≡ Some x → letter x ≡ c
basic_sound c x e0 =
    elim (either (eqb c 121) (Some b.Byte) _ x e0) [
      | inl q ↦ ap letter (sym (some_is b.Byte x q.1)) ∙ sym (eqb-true c 121 q.0)
      | inr e1 ↦
          elim (either (eqb c 98) (Some b.Bool) _ x e1) [
            | inl q ↦ ap letter (sym (some_is b.Bool x q.1)) ∙ sym (eqb-true c 98 q.0)
            | inr e2 ↦
                elim (either (eqb c 110) (Some b.I16) _ x e2) [
                  | inl q ↦ ap letter (sym (some_is b.I16 x q.1)) ∙ sym (eqb-true c 110 q.0)
                  | inr e3 ↦
                      elim (either (eqb c 113) (Some b.U16) _ x e3) [
                        | inl q ↦ ap letter (sym (some_is b.U16 x q.1)) ∙ sym (eqb-true c 113 q.0)
                        | inr e4 ↦
                            elim (either (eqb c 105) (Some b.I32) _ x e4) [
                              | inl q ↦ ap letter (sym (some_is b.I32 x q.1)) ∙ sym (eqb-true c 105 q.0)
                              | inr e5 ↦
                                  elim (either (eqb c 117) (Some b.U32) _ x e5) [
                                    | inl q ↦ ap letter (sym (some_is b.U32 x q.1)) ∙ sym (eqb-true c 117 q.0)
                                    | inr e6 ↦
                                        elim (either (eqb c 120) (Some b.I64) _ x e6) [
                                          | inl q ↦ ap letter (sym (some_is b.I64 x q.1)) ∙ sym (eqb-true c 120 q.0)
                                          | inr e7 ↦
                                              elim (either (eqb c 116) (Some b.U64) _ x e7) [
                                                | inl q ↦ ap letter (sym (some_is b.U64 x q.1)) ∙ sym (eqb-true c 116 q.0)
                                                | inr e8 ↦
                                                    elim (either (eqb c 104) (Some b.Handle) _ x e8) [
                                                      | inl q ↦ ap letter (sym (some_is b.Handle x q.1)) ∙ sym (eqb-true c 104 q.0)
                                                      | inr e9 ↦
                                                          elim (either (eqb c 100) (Some b.Double) _ x e9) [
                                                            | inl q ↦ ap letter (sym (some_is b.Double x q.1)) ∙ sym (eqb-true c 100 q.0)
                                                            | inr e10 ↦
                                                                elim (either (eqb c 115) (Some b.Text) _ x e10) [
                                                                  | inl q ↦ ap letter (sym (some_is b.Text x q.1)) ∙ sym (eqb-true c 115 q.0)
                                                                  | inr e11 ↦
                                                                      elim (either (eqb c 111) (Some b.Path) _ x e11) [
                                                                        | inl q ↦ ap letter (sym (some_is b.Path x q.1)) ∙ sym (eqb-true c 111 q.0)
                                                                        | inr e12 ↦
                                                                            elim (either (eqb c 103) (Some b.Signature) _ x e12) [
                                                                              | inl q ↦ ap letter (sym (some_is b.Signature x q.1)) ∙ sym (eqb-true c 103 q.0)
                                                                              | inr e13 ↦
                                                                                  none_some x (letter x ≡ c) e13
                                                                            ]
                                                                      ]
                                                                ]
                                                          ]
                                                    ]
                                              ]
                                        ]
                                  ]
                            ]
                      ]
                ]
          ]
    ]

wrap_sound : (f : Kind → Kind) (c : ℕ) (st st2 : List Item) → ((k : Kind) → spell (f k) ≡ c ∷ spell k) → wrap f st ≡ Some st2 → unstack st2 ≡ c ∷ unstack st
unfolding unstack
wrap_sound f c [] st2 h e = none_some st2 (unstack st2 ≡ c ∷ unstack []) e
wrap_sound f c (one k ∷ st) st2 h e = ap unstack (sym (some_is (one (f k) ∷ st) st2 e)) ∙ ap (λ (x : List ℕ). x ++ unstack st) (h k)
wrap_sound f c (round ∷ st) st2 h e = none_some st2 (unstack st2 ≡ c ∷ unstack (round ∷ st)) e
wrap_sound f c (curly ∷ st) st2 h e = none_some st2 (unstack st2 ≡ c ∷ unstack (curly ∷ st)) e

gather_sound : (st : List Item) (p : Kinds × List Item) → gather st ≡ Some p → unstack st ≡ spell_all p.0 ++ (41 ∷ unstack p.1)
unfolding unstack spell
gather_sound [] p e = none_some p (unstack [] ≡ spell_all p.0 ++ (41 ∷ unstack p.1)) e
gather_sound (one k ∷ st) p e =
    let q = map_some (λ (p : Kinds × List Item). (kind k p.0, p.1)) (gather st) p e in
    let ih = gather_sound st q.0 q.1 in
    let made : Kinds × List Item = (kind k q.0.0, q.0.1) in
    ap (λ (x : List ℕ). spell k ++ x) ih ∙ sym (append_assoc (spell k) (spell_all q.0.0) (41 ∷ unstack q.0.1)) ∙ ap (λ (p : Kinds × List Item). spell_all p.0 ++ (41 ∷ unstack p.1)) q.2
gather_sound (round ∷ st) p e = ap (λ (p : Kinds × List Item). spell_all p.0 ++ (41 ∷ unstack p.1)) (some_is (no_kinds, st) p e)
gather_sound (curly ∷ st) p e = none_some p (unstack (curly ∷ st) ≡ spell_all p.0 ++ (41 ∷ unstack p.1)) e

pair_sound : (st st2 : List Item) → pair_up st ≡ Some st2 → unstack st2 ≡ 123 ∷ unstack st
unfolding unstack spell
pair_sound (one (basic x) ∷ one k ∷ curly ∷ st) st2 e =
    ap unstack (sym (some_is (one (entry x k) ∷ st) st2 e)) ∙ ap (λ (y : List ℕ). 123 ∷ letter x ∷ y) (append_assoc (spell k) (125 ∷ []) (unstack st))
pair_sound st st2 e = none_some st2 (unstack st2 ≡ 123 ∷ unstack st) e

step_sound : (c : ℕ) (st st2 : List Item) → read_letter c st ≡ Some st2 → unstack st2 ≡ c ∷ unstack st
unfolding unstack spell
step_sound c st st2 e0 =
    elim (either (eqb c 97) (wrap array st) _ st2 e0) [
      | inl q ↦ ap unstack refl ∙ wrap_sound array 97 st st2 (λ k. refl) q.1 ∙ ap (λ x. x ∷ unstack st) (sym (eqb-true c 97 q.0))
      | inr e1 ↦ elim (either (eqb c 109) (wrap maybe st) _ st2 e1) [
        | inl q ↦ wrap_sound maybe 109 st st2 (λ k. refl) q.1 ∙ ap (λ x. x ∷ unstack st) (sym (eqb-true c 109 q.0))
        | inr e2 ↦ elim (either (eqb c 118) (Some (one variant ∷ st)) _ st2 e2) [
          | inl q ↦ ap unstack (sym (some_is (one variant ∷ st) st2 q.1)) ∙ ap (λ x. x ∷ unstack st) (sym (eqb-true c 118 q.0))
          | inr e3 ↦ elim (either (eqb c 41) (Some (round ∷ st)) _ st2 e3) [
            | inl q ↦ ap unstack (sym (some_is (round ∷ st) st2 q.1)) ∙ ap (λ x. x ∷ unstack st) (sym (eqb-true c 41 q.0))
            | inr e4 ↦ elim (either (eqb c 125) (Some (curly ∷ st)) _ st2 e4) [
              | inl q ↦ ap unstack (sym (some_is (curly ∷ st) st2 q.1)) ∙ ap (λ x. x ∷ unstack st) (sym (eqb-true c 125 q.0))
              | inr e5 ↦ elim (either (eqb c 40) (option_map (λ (p : Kinds × List Item). one (tuple p.0) ∷ p.1) (gather st)) _ st2 e5) [
                | inl q ↦
                    let g = map_some (λ (p : Kinds × List Item). one (tuple p.0) ∷ p.1) (gather st) st2 q.1 in
                    ap unstack (sym g.2) ∙ ap (λ (y : List ℕ). 40 ∷ y) (append_assoc (spell_all g.0.0) (41 ∷ []) (unstack g.0.1) ∙ sym (gather_sound st g.0 g.1)) ∙ ap (λ x. x ∷ unstack st) (sym (eqb-true c 40 q.0))
                | inr e6 ↦ elim (either (eqb c 123) (pair_up st) _ st2 e6) [
                  | inl q ↦ pair_sound st st2 q.1 ∙ ap (λ x. x ∷ unstack st) (sym (eqb-true c 123 q.0))
                  | inr e7 ↦
                      let g = map_some (λ (x : Basic). one (basic x) ∷ st) (basic_of c) st2 e7 in
                      ap unstack (sym g.2) ∙ ap (λ x. x ∷ unstack st) (basic_sound c g.0 g.1)
                ]
              ]
            ]
          ]
        ]
      ]
    ]

items_sound : (text : List ℕ) (st : List Item) → items_at text ≡ Some st → unstack st ≡ text
unfolding items_at unstack
items_sound [] st e = ap unstack (sym (some_is [] st e))
items_sound (c ∷ cs) st e =
    let p = bind_some (items_at cs) (read_letter c) st e in
    step_sound c p.0 st p.2 ∙ ap (λ (x : List ℕ). c ∷ x) (items_sound cs p.0 p.1)

only_sound : (st : List Item) (k : Kind) → only st ≡ Some k → unstack st ≡ spell k
unfolding unstack
only_sound (one j ∷ []) k e = append-nil (spell j) ∙ ap spell (some_is j k e)
only_sound st k e = none_some k (unstack st ≡ spell k) e

pub spell_of : (text : List ℕ) (k : Kind) → kind_of text ≡ Some k → spell k ≡ text
unfolding kind_of
spell_of text k e = let p = bind_some (items_at text) only k e in sym (only_sound p.0 k p.2) ∙ items_sound text p.0 p.1
