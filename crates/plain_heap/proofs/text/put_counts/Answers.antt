use Rattle.std.proofs.Common.{◌≡◌, ℕ, List, ◌++◌, ap, ◌∙◌, append_assoc}
use Rattle.std.specs.Prelude.{codes, decimal}
use Rattle.plain_heap.proofs.text.put_counts.Goals as goal

six_parts : (out a b c d e f : List ℕ) → (((((out ++ a) ++ b) ++ c) ++ d) ++ e) ++ f ≡ out ++ (((((a ++ b) ++ c) ++ d) ++ e) ++ f)
six_parts out a b c d e f = simp append_assoc

pub returns : goal.returns
returns c =
    let version = decimal c.args.header.now.version in
    let cpus = decimal c.args.header.now.cpus in
    let threads = decimal c.args.header.now.threads in
    let first = c.in_ok-put_number.ensures ∙ ap (λ (front : List ℕ). front ++ version) c.in_ok-push_slice.ensures.ok in
    let second = c.in_ok-put_number-2.ensures ∙ ap (λ (front : List ℕ). front ++ cpus) (c.in_ok-push_slice-2.ensures.ok ∙ ap (λ (front : List ℕ). front ++ codes " cpus ") first) in
    c.in_ok-put_number-3.ensures
    ∙ ap (λ (front : List ℕ). front ++ threads) (c.in_ok-push_slice-3.ensures.ok ∙ ap (λ (front : List ℕ). front ++ codes " threads ") second)
    ∙ six_parts c.args.out.now (codes "transcript ") version (codes " cpus ") cpus (codes " threads ") threads
