-- P1 to P14 of document 01 as one statement over the definitions. The lent places hold any numbers before; what is not written stays.
use Rattle.std.specs.Prelude.{◌≡◌, [], ◌∷◌, ℕ}
use Rattle.setups.specs.Setups.{setup}
use Rattle.setups.specs.Ask.{ask_result}
use Rattle.setups.specs.List.{ListGives}
use Rattle.setups.specs.Turn.{TurnGives}
use Rattle.table.specs.Rows.{neg, Row, UnmetRow, P4-hard, P4-soft, P4-ways, P10-clauses, P11-clauses, P14-hard, P14-soft}

pub record Table : Type 0 where
  -- no variable, no clause
  pub p1 : Row (setup 0 [] []) (0 ∷ []) []
  -- hard (−1); soft (1)
  pub p2 : Row (setup 1 (neg 1 ∷ 0 ∷ []) (1 ∷ 0 ∷ [])) (1 ∷ []) (1 ∷ [])
  -- hard (1), (−1); soft (1)
  pub p3 : UnmetRow (setup 1 (1 ∷ 0 ∷ neg 1 ∷ 0 ∷ []) (1 ∷ 0 ∷ []))
  -- the setup of "The program's lines"
  pub p4 : Row (setup 4 P4-hard P4-soft) P4-ways (3 ∷ 6 ∷ 12 ∷ [])
  -- hard (−1); soft (1), (1)
  pub p5 : Row (setup 1 (neg 1 ∷ 0 ∷ []) (1 ∷ 0 ∷ 1 ∷ 0 ∷ [])) (3 ∷ []) (1 ∷ 2 ∷ [])
  -- soft (1), (−1)
  pub p6 : Row (setup 1 [] (1 ∷ 0 ∷ neg 1 ∷ 0 ∷ [])) (1 ∷ 2 ∷ []) (3 ∷ [])
  -- soft (empty), (1)
  pub p7 : Row (setup 1 [] (0 ∷ 1 ∷ 0 ∷ [])) (1 ∷ []) (1 ∷ [])
  -- soft (1 −1)
  pub p8 : Row (setup 1 [] (1 ∷ neg 1 ∷ 0 ∷ [])) (0 ∷ []) []
  -- P4 with room 2 is TooMany, with room 3 Listed
  pub p9_room_2 : (a b x y z : ℕ)
      → ListGives 4 P4-hard P4-soft (a ∷ b ∷ []) (x ∷ y ∷ z ∷ [])
      (record { number = 8; filled = 0; list = a ∷ b ∷ []; scratch = 0 ∷ 0 ∷ 0 ∷ [] })
  pub p9_room_3 : (a b c w x y z : ℕ)
      → ListGives 4 P4-hard P4-soft (a ∷ b ∷ c ∷ []) (w ∷ x ∷ y ∷ z ∷ [])
      (record { number = 0; filled = 3; list = P4-ways; scratch = 0 ∷ 0 ∷ 0 ∷ 0 ∷ [] })
  -- budget 2 Spent, budget 3 Model 1, 1 with 3 visits
  pub p10_budget_2 : (a b : ℕ) → ask_result 2 P10-clauses [] 2 (a ∷ b ∷ []) ≡ record { number = 10; visits = 0; model = a ∷ b ∷ [] }
  pub p10_budget_3 : (a b : ℕ) → ask_result 2 P10-clauses [] 3 (a ∷ b ∷ []) ≡ record { number = 0; visits = 3; model = 1 ∷ 1 ∷ [] }
  -- (−1 −2) added: None, 3 visits
  pub p11 : (a b : ℕ) → ask_result 2 P11-clauses [] 3 (a ∷ b ∷ []) ≡ record { number = 129; visits = 3; model = a ∷ b ∷ [] }
  -- two variables, no clause: Model 0, 0, 3 visits
  pub p12 : (a b : ℕ) → ask_result 2 [] [] 3 (a ∷ b ∷ []) ≡ record { number = 0; visits = 3; model = 0 ∷ 0 ∷ [] }
  -- turning the list 0, 1 over one setting is List
  pub p13 : (a x y : ℕ)
      → TurnGives 1 (0 ∷ 1 ∷ []) (a ∷ []) (x ∷ y ∷ []) (record { number = 9; filled = 0; list = a ∷ []; scratch = x ∷ y ∷ [] })
  -- hard (−1 −2), (−1 −3); soft (1), (2), (3)
  pub p14 : Row (setup 3 P14-hard P14-soft) (1 ∷ 6 ∷ []) (3 ∷ 5 ∷ [])
