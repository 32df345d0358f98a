-- The names that wait in the folders around the innermost one.
use Rattle.std.proofs.Common.{◌≡◌, ℕ, suc, ◌≤◌, ◌<◌, ◌+◌, arith, sym, ◌∙◌, ap, List, [], ◌∷◌, ◌++◌, length, reverse, take, get_or}
use Rattle.std.proofs.Math.Seq.{take-suc}
use Rattle.std.proofs.lemmas.List.{take_all}
use Rattle.checkout.specs.RemoveFolder.{Opened}
use Rattle.checkout.specs.Remove.{waiting}
use Rattle.checkout.proofs.RemoveLists.{reverse-last}

next_count : (i : ℕ) → i + 1 ≡ suc i
next_count i = omega arith

pub waiting_more : (items : List Opened) (i : ℕ) (f : Opened) → i < length items → f ≡ get_or items i f → waiting (reverse (take (i + 1) items)) ≡ length f.names + 1 + waiting (reverse (take i items))
waiting_more items i f less is =
    ap (λ l. waiting (reverse l)) (ap (λ n. take n items) (next_count i) ∙ take-suc items i f less ∙ ap (λ z. take i items ++ z ∷ []) (sym is))
    ∙ ap waiting (reverse-last (take i items) f)

pub waiting_all : (items : List Opened) (i : ℕ) → length items ≤ i → waiting (reverse (take i items)) ≡ waiting (reverse items)
waiting_all items i le = ap (λ l. waiting (reverse l)) (take_all i items le)
