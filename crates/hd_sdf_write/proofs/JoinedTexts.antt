-- Texts behind one another.
use Rattle.std.proofs.Common.{◌≡◌, ℕ, List, ◌++◌, ap, ◌∙◌, append_assoc}

module _ (out first second third a b c : List ℕ) (one : first ≡ out ++ a) (two : second ≡ first ++ b) (three : third ≡ second ++ c) where
  pub three_texts : third ≡ out ++ ((a ++ b) ++ c)
  three_texts = three ∙ ap (λ t. t ++ c) (two ∙ ap (λ t. t ++ b) one ∙ append_assoc out a b) ∙ append_assoc out (a ++ b) c

  pub four_texts : (fourth d : List ℕ) → fourth ≡ third ++ d → fourth ≡ out ++ (((a ++ b) ++ c) ++ d)
  four_texts fourth d four = four ∙ ap (λ t. t ++ d) three_texts ∙ append_assoc out ((a ++ b) ++ c) d

  pub five_texts : (fourth fifth d e : List ℕ) → fourth ≡ third ++ d → fifth ≡ fourth ++ e → fifth ≡ out ++ ((((a ++ b) ++ c) ++ d) ++ e)
  five_texts fourth fifth d e four five = five ∙ ap (λ t. t ++ e) (four_texts fourth d four) ∙ append_assoc out (((a ++ b) ++ c) ++ d) e

  pub six_texts : (fourth fifth sixth d e f : List ℕ) → fourth ≡ third ++ d → fifth ≡ fourth ++ e → sixth ≡ fifth ++ f → sixth ≡ out ++ (((((a ++ b) ++ c) ++ d) ++ e) ++ f)
  six_texts fourth fifth sixth d e f four five six = six ∙ ap (λ t. t ++ f) (five_texts fourth fifth d e four five) ∙ append_assoc out ((((a ++ b) ++ c) ++ d) ++ e) f
