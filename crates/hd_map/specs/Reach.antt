-- What steps of one kind lead to.

-- from the first the second is reached by none or more steps that R allows
pub data Reach {V : Type 0} (R : V → V → Type 0) : V → V → Type 0 where
  here : {a : V} → Reach R a a
  step : {a b c : V} → R a b → Reach R b c → Reach R a c
