-- What is reached along steps of any kind.

-- b is reached from a by zero or more steps
pub data Reaches {X : Type 0} (Step : X → X → Type 0) : X → X → Type 0 where
  here : {a : X} → Reaches Step a a
  on : {a b c : X} → Step a b → Reaches Step b c → Reaches Step a c

-- and by one or more
pub record Follows {X : Type 0} (Step : X → X → Type 0) (a c : X) : Type 0 where
  pub by : X
  pub step : Step a by
  pub rest : Reaches Step by c
