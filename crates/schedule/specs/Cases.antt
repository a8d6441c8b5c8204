-- Small books, and what a search through all sharings, lists and pairs finds for each. Written by tests/schedule.py.
use Rattle.std.specs.Prelude.{List, [], ◌∷◌}
use Rattle.schedule.specs.Demands.{job}
use Rattle.schedule.specs.Answers.{Case}

-- the cases, each with its book and what was found
abbrev pub cases : List Case
cases =
    record {
      book = record { ticks = 3; top = 4; demands = [] };
      found = record {
        overload = [];
        able = 125;
        exact = 1;
        settings = 0 ∷ 0 ∷ 0 ∷ [];
        served = [];
        left = [];
        draws = 0 ∷ 30 ∷ 24 ∷ 0 ∷ [];
        blocks = [];
      };
    } ∷
    record {
      book = record { ticks = 3; top = 4; demands = job 0 2 3 ∷ job 0 3 1 ∷ [] };
      found = record {
        overload = [];
        able = 91;
        exact = 9;
        settings = 2 ∷ 1 ∷ 1 ∷ [];
        served = 2 ∷ 0 ∷ [];
        left = (0, 1, 1) ∷ (0, 2, 1) ∷ [];
        draws = 4 ∷ 40 ∷ 24 ∷ 1 ∷ [];
        blocks = (3, 2, 0, 2) ∷ (1, 1, 2, 3) ∷ [];
      };
    } ∷
    record {
      book = record { ticks = 3; top = 4; demands = job 2 3 1 ∷ job 0 3 2 ∷ [] };
      found = record {
        overload = [];
        able = 96;
        exact = 6;
        settings = 1 ∷ 1 ∷ 1 ∷ [];
        served = 0 ∷ 1 ∷ [];
        left = (1, 2, 1) ∷ (0, 2, 1) ∷ [];
        draws = 3 ∷ 33 ∷ 24 ∷ 0 ∷ [];
        blocks = (3, 3, 0, 3) ∷ [];
      };
    } ∷
    record {
      book = record { ticks = 1; top = 4; demands = job 0 1 2 ∷ job 0 1 2 ∷ [] };
      found = record {
        overload = [];
        able = 1;
        exact = 1;
        settings = 4 ∷ [];
        served = 2 ∷ 2 ∷ [];
        left = (0, 0, 0) ∷ (0, 0, 0) ∷ [];
        draws = 4 ∷ 74 ∷ 64 ∷ 3 ∷ [];
        blocks = (4, 1, 0, 1) ∷ [];
      };
    } ∷
    record {
      book = record { ticks = 1; top = 3; demands = job 0 1 2 ∷ job 0 1 2 ∷ [] };
      found = record {
        overload = 0 ∷ 1 ∷ 4 ∷ [];
        able = 0;
        exact = 0;
        settings = 4 ∷ [];
        served = 2 ∷ 2 ∷ [];
        left = (0, 0, 0) ∷ (0, 0, 0) ∷ [];
        draws = [];
        blocks = (4, 1, 0, 1) ∷ [];
      };
    } ∷
    record {
      book = record { ticks = 4; top = 3; demands = job 0 4 11 ∷ job 2 4 4 ∷ [] };
      found = record {
        overload = 0 ∷ 4 ∷ 15 ∷ [];
        able = 0;
        exact = 0;
        settings = 4 ∷ 4 ∷ 4 ∷ 3 ∷ [];
        served = 4 ∷ 0 ∷ [];
        left = (0, 3, 7) ∷ (1, 3, 4) ∷ [];
        draws = [];
        blocks = (15, 4, 0, 4) ∷ [];
      };
    } ∷
    record {
      book = record { ticks = 4; top = 2; demands = job 1 2 5 ∷ job 0 4 4 ∷ [] };
      found = record {
        overload = 0 ∷ 2 ∷ 5 ∷ [];
        able = 0;
        exact = 0;
        settings = 2 ∷ 5 ∷ 1 ∷ 1 ∷ [];
        served = 0 ∷ 2 ∷ [];
        left = (0, 1, 5) ∷ (0, 3, 2) ∷ [];
        draws = [];
        blocks = (5, 1, 1, 2) ∷ (4, 3, 0, 4) ∷ [];
      };
    } ∷
    record {
      book = record { ticks = 4; top = 2; demands = job 0 1 2 ∷ job 1 2 2 ∷ job 3 4 2 ∷ [] };
      found = record {
        overload = [];
        able = 3;
        exact = 1;
        settings = 2 ∷ 2 ∷ 0 ∷ 2 ∷ [];
        served = 2 ∷ 0 ∷ 0 ∷ [];
        left = (0, 0, 0) ∷ (0, 1, 2) ∷ (2, 3, 2) ∷ [];
        draws = 6 ∷ 64 ∷ 32 ∷ 3 ∷ [];
        blocks = (4, 2, 0, 2) ∷ (2, 1, 3, 4) ∷ [];
      };
    } ∷
    record {
      book = record { ticks = 5; top = 2; demands = job 2 4 1 ∷ job 3 5 1 ∷ job 4 5 2 ∷ job 2 5 3 ∷ [] };
      found = record {
        overload = 2 ∷ 5 ∷ 7 ∷ [];
        able = 0;
        exact = 0;
        settings = 0 ∷ 0 ∷ 3 ∷ 2 ∷ 2 ∷ [];
        served = 0 ∷ 0 ∷ 0 ∷ 0 ∷ [];
        left = (1, 3, 1) ∷ (2, 4, 1) ∷ (3, 4, 2) ∷ (1, 4, 3) ∷ [];
        draws = [];
        blocks = (7, 3, 2, 5) ∷ [];
      };
    } ∷
    record {
      book = record { ticks = 4; top = 3; demands = job 2 3 2 ∷ [] };
      found = record {
        overload = [];
        able = 128;
        exact = 1;
        settings = 0 ∷ 0 ∷ 2 ∷ 0 ∷ [];
        served = 0 ∷ [];
        left = (1, 2, 2) ∷ [];
        draws = 2 ∷ 48 ∷ 32 ∷ 1 ∷ [];
        blocks = (2, 1, 2, 3) ∷ [];
      };
    } ∷
    record {
      book = record { ticks = 2; top = 5; demands = job 0 1 3 ∷ job 0 2 2 ∷ job 1 2 1 ∷ job 0 2 3 ∷ [] };
      found = record {
        overload = [];
        able = 3;
        exact = 2;
        settings = 5 ∷ 4 ∷ [];
        served = 3 ∷ 2 ∷ 0 ∷ 0 ∷ [];
        left = (0, 0, 0) ∷ (0, 1, 0) ∷ (0, 1, 1) ∷ (0, 1, 3) ∷ [];
        draws = 9 ∷ 209 ∷ 189 ∷ 7 ∷ [];
        blocks = (9, 2, 0, 2) ∷ [];
      };
    } ∷
    record {
      book = record { ticks = 4; top = 2; demands = job 3 4 1 ∷ job 2 4 3 ∷ job 3 4 1 ∷ [] };
      found = record {
        overload = 2 ∷ 4 ∷ 5 ∷ [];
        able = 0;
        exact = 0;
        settings = 0 ∷ 0 ∷ 3 ∷ 2 ∷ [];
        served = 0 ∷ 0 ∷ 0 ∷ [];
        left = (2, 3, 1) ∷ (1, 3, 3) ∷ (2, 3, 1) ∷ [];
        draws = [];
        blocks = (5, 2, 2, 4) ∷ [];
      };
    } ∷
    record {
      book = record { ticks = 5; top = 1; demands = job 2 3 1 ∷ [] };
      found = record {
        overload = [];
        able = 16;
        exact = 1;
        settings = 0 ∷ 0 ∷ 1 ∷ 0 ∷ 0 ∷ [];
        served = 0 ∷ [];
        left = (1, 2, 1) ∷ [];
        draws = 1 ∷ 51 ∷ 40 ∷ 0 ∷ [];
        blocks = (1, 1, 2, 3) ∷ [];
      };
    } ∷
    record {
      book = record { ticks = 4; top = 3; demands = job 0 2 2 ∷ [] };
      found = record {
        overload = [];
        able = 208;
        exact = 3;
        settings = 1 ∷ 1 ∷ 0 ∷ 0 ∷ [];
        served = 1 ∷ [];
        left = (0, 1, 1) ∷ [];
        draws = 2 ∷ 42 ∷ 32 ∷ 0 ∷ [];
        blocks = (2, 2, 0, 2) ∷ [];
      };
    } ∷
    record {
      book = record { ticks = 3; top = 4; demands = job 1 2 3 ∷ job 2 3 2 ∷ [] };
      found = record {
        overload = [];
        able = 30;
        exact = 1;
        settings = 0 ∷ 3 ∷ 2 ∷ [];
        served = 0 ∷ 0 ∷ [];
        left = (0, 1, 3) ∷ (1, 2, 2) ∷ [];
        draws = 5 ∷ 65 ∷ 43 ∷ 3 ∷ [];
        blocks = (3, 1, 1, 2) ∷ (2, 1, 2, 3) ∷ [];
      };
    } ∷
    record {
      book = record { ticks = 2; top = 5; demands = job 1 2 2 ∷ job 0 2 5 ∷ job 1 2 3 ∷ job 1 2 2 ∷ [] };
      found = record {
        overload = 0 ∷ 2 ∷ 12 ∷ [];
        able = 0;
        exact = 0;
        settings = 5 ∷ 7 ∷ [];
        served = 0 ∷ 5 ∷ 0 ∷ 0 ∷ [];
        left = (0, 1, 2) ∷ (0, 1, 0) ∷ (0, 1, 3) ∷ (0, 1, 2) ∷ [];
        draws = [];
        blocks = (7, 1, 1, 2) ∷ (5, 1, 0, 1) ∷ [];
      };
    } ∷
    record {
      book = record { ticks = 2; top = 1; demands = job 0 1 1 ∷ job 0 1 1 ∷ job 0 2 1 ∷ job 0 2 1 ∷ [] };
      found = record {
        overload = 0 ∷ 1 ∷ 2 ∷ [];
        able = 0;
        exact = 0;
        settings = 2 ∷ 2 ∷ [];
        served = 1 ∷ 1 ∷ 0 ∷ 0 ∷ [];
        left = (0, 0, 0) ∷ (0, 0, 0) ∷ (0, 1, 1) ∷ (0, 1, 1) ∷ [];
        draws = [];
        blocks = (4, 2, 0, 2) ∷ [];
      };
    } ∷
    record {
      book = record { ticks = 4; top = 2; demands = job 1 4 3 ∷ [] };
      found = record {
        overload = [];
        able = 51;
        exact = 7;
        settings = 0 ∷ 1 ∷ 1 ∷ 1 ∷ [];
        served = 0 ∷ [];
        left = (0, 3, 3) ∷ [];
        draws = 3 ∷ 43 ∷ 32 ∷ 0 ∷ [];
        blocks = (3, 3, 1, 4) ∷ [];
      };
    } ∷
    record {
      book = record { ticks = 3; top = 4; demands = job 0 3 2 ∷ [] };
      found = record {
        overload = [];
        able = 121;
        exact = 6;
        settings = 1 ∷ 1 ∷ 0 ∷ [];
        served = 1 ∷ [];
        left = (0, 2, 1) ∷ [];
        draws = 2 ∷ 32 ∷ 24 ∷ 0 ∷ [];
        blocks = (2, 3, 0, 3) ∷ [];
      };
    } ∷
    record {
      book = record { ticks = 5; top = 1; demands = job 2 3 1 ∷ job 2 4 1 ∷ job 2 4 2 ∷ job 1 5 3 ∷ [] };
      found = record {
        overload = 1 ∷ 4 ∷ 4 ∷ [];
        able = 0;
        exact = 0;
        settings = 0 ∷ 2 ∷ 2 ∷ 2 ∷ 1 ∷ [];
        served = 0 ∷ 0 ∷ 0 ∷ 0 ∷ [];
        left = (1, 2, 1) ∷ (1, 3, 1) ∷ (1, 3, 2) ∷ (0, 4, 3) ∷ [];
        draws = [];
        blocks = (4, 2, 2, 4) ∷ (3, 2, 1, 5) ∷ [];
      };
    } ∷
    record {
      book = record { ticks = 5; top = 1; demands = job 0 4 2 ∷ [] };
      found = record {
        overload = [];
        able = 22;
        exact = 6;
        settings = 1 ∷ 1 ∷ 0 ∷ 0 ∷ 0 ∷ [];
        served = 1 ∷ [];
        left = (0, 3, 1) ∷ [];
        draws = 2 ∷ 52 ∷ 40 ∷ 0 ∷ [];
        blocks = (2, 4, 0, 4) ∷ [];
      };
    } ∷
    record {
      book = record { ticks = 3; top = 3; demands = job 1 2 1 ∷ job 0 3 4 ∷ job 2 3 1 ∷ [] };
      found = record {
        overload = [];
        able = 18;
        exact = 8;
        settings = 2 ∷ 2 ∷ 2 ∷ [];
        served = 0 ∷ 2 ∷ 0 ∷ [];
        left = (0, 1, 1) ∷ (0, 2, 2) ∷ (1, 2, 1) ∷ [];
        draws = 6 ∷ 54 ∷ 24 ∷ 3 ∷ [];
        blocks = (6, 3, 0, 3) ∷ [];
      };
    } ∷
    record {
      book = record { ticks = 5; top = 1; demands = job 1 3 1 ∷ job 1 3 1 ∷ [] };
      found = record {
        overload = [];
        able = 8;
        exact = 1;
        settings = 0 ∷ 1 ∷ 1 ∷ 0 ∷ 0 ∷ [];
        served = 0 ∷ 0 ∷ [];
        left = (0, 2, 1) ∷ (0, 2, 1) ∷ [];
        draws = 2 ∷ 52 ∷ 40 ∷ 0 ∷ [];
        blocks = (2, 2, 1, 3) ∷ [];
      };
    } ∷
    record {
      book = record { ticks = 5; top = 1; demands = job 1 2 1 ∷ job 4 5 1 ∷ job 3 5 1 ∷ [] };
      found = record {
        overload = [];
        able = 4;
        exact = 1;
        settings = 0 ∷ 1 ∷ 0 ∷ 1 ∷ 1 ∷ [];
        served = 0 ∷ 0 ∷ 0 ∷ [];
        left = (0, 1, 1) ∷ (3, 4, 1) ∷ (2, 4, 1) ∷ [];
        draws = 3 ∷ 53 ∷ 40 ∷ 0 ∷ [];
        blocks = (1, 1, 1, 2) ∷ (2, 2, 3, 5) ∷ [];
      };
    } ∷
    record {
      book = record { ticks = 3; top = 3; demands = job 1 3 1 ∷ [] };
      found = record {
        overload = [];
        able = 60;
        exact = 2;
        settings = 0 ∷ 1 ∷ 0 ∷ [];
        served = 0 ∷ [];
        left = (0, 2, 1) ∷ [];
        draws = 1 ∷ 31 ∷ 24 ∷ 0 ∷ [];
        blocks = (1, 2, 1, 3) ∷ [];
      };
    } ∷
    record {
      book = record { ticks = 3; top = 4; demands = job 0 1 3 ∷ job 0 1 1 ∷ job 2 3 3 ∷ job 2 3 1 ∷ [] };
      found = record {
        overload = [];
        able = 5;
        exact = 1;
        settings = 4 ∷ 0 ∷ 4 ∷ [];
        served = 3 ∷ 1 ∷ 0 ∷ 0 ∷ [];
        left = (0, 0, 0) ∷ (0, 0, 0) ∷ (1, 2, 3) ∷ (1, 2, 1) ∷ [];
        draws = 8 ∷ 158 ∷ 136 ∷ 6 ∷ [];
        blocks = (4, 1, 0, 1) ∷ (4, 1, 2, 3) ∷ [];
      };
    } ∷
    record {
      book = record { ticks = 4; top = 1; demands = job 0 3 2 ∷ job 2 3 1 ∷ job 3 4 1 ∷ job 3 4 1 ∷ [] };
      found = record {
        overload = 0 ∷ 4 ∷ 5 ∷ [];
        able = 0;
        exact = 0;
        settings = 1 ∷ 1 ∷ 1 ∷ 2 ∷ [];
        served = 1 ∷ 0 ∷ 0 ∷ 0 ∷ [];
        left = (0, 2, 1) ∷ (1, 2, 1) ∷ (2, 3, 1) ∷ (2, 3, 1) ∷ [];
        draws = [];
        blocks = (2, 1, 3, 4) ∷ (3, 3, 0, 3) ∷ [];
      };
    } ∷
    record {
      book = record { ticks = 4; top = 3; demands = job 1 2 2 ∷ job 0 3 2 ∷ job 2 4 4 ∷ job 3 4 2 ∷ [] };
      found = record {
        overload = [];
        able = 5;
        exact = 2;
        settings = 2 ∷ 2 ∷ 3 ∷ 3 ∷ [];
        served = 0 ∷ 2 ∷ 0 ∷ 0 ∷ [];
        left = (0, 1, 2) ∷ (0, 2, 0) ∷ (1, 3, 4) ∷ (2, 3, 2) ∷ [];
        draws = 10 ∷ 110 ∷ 70 ∷ 6 ∷ [];
        blocks = (6, 2, 2, 4) ∷ (4, 2, 0, 2) ∷ [];
      };
    } ∷
    record {
      book = record { ticks = 2; top = 2; demands = job 0 1 1 ∷ job 0 1 2 ∷ job 1 2 1 ∷ job 1 2 1 ∷ [] };
      found = record {
        overload = 0 ∷ 1 ∷ 3 ∷ [];
        able = 0;
        exact = 0;
        settings = 3 ∷ 2 ∷ [];
        served = 1 ∷ 2 ∷ 0 ∷ 0 ∷ [];
        left = (0, 0, 0) ∷ (0, 0, 0) ∷ (0, 1, 1) ∷ (0, 1, 1) ∷ [];
        draws = [];
        blocks = (3, 1, 0, 1) ∷ (2, 1, 1, 2) ∷ [];
      };
    } ∷
    record {
      book = record { ticks = 5; top = 1; demands = job 1 3 2 ∷ job 3 4 1 ∷ job 3 4 1 ∷ job 3 5 2 ∷ [] };
      found = record {
        overload = 1 ∷ 4 ∷ 4 ∷ [];
        able = 0;
        exact = 0;
        settings = 0 ∷ 1 ∷ 1 ∷ 2 ∷ 2 ∷ [];
        served = 0 ∷ 0 ∷ 0 ∷ 0 ∷ [];
        left = (0, 2, 2) ∷ (2, 3, 1) ∷ (2, 3, 1) ∷ (2, 4, 2) ∷ [];
        draws = [];
        blocks = (4, 2, 3, 5) ∷ (2, 2, 1, 3) ∷ [];
      };
    } ∷
    record {
      book = record { ticks = 3; top = 2; demands = job 0 2 3 ∷ [] };
      found = record {
        overload = [];
        able = 9;
        exact = 2;
        settings = 2 ∷ 1 ∷ 0 ∷ [];
        served = 2 ∷ [];
        left = (0, 1, 1) ∷ [];
        draws = 3 ∷ 39 ∷ 24 ∷ 1 ∷ [];
        blocks = (3, 2, 0, 2) ∷ [];
      };
    } ∷
    record {
      book = record { ticks = 5; top = 1; demands = job 2 3 1 ∷ [] };
      found = record {
        overload = [];
        able = 16;
        exact = 1;
        settings = 0 ∷ 0 ∷ 1 ∷ 0 ∷ 0 ∷ [];
        served = 0 ∷ [];
        left = (1, 2, 1) ∷ [];
        draws = 1 ∷ 51 ∷ 40 ∷ 0 ∷ [];
        blocks = (1, 1, 2, 3) ∷ [];
      };
    } ∷
    record {
      book = record { ticks = 5; top = 2; demands = job 0 1 2 ∷ job 2 3 2 ∷ job 4 5 2 ∷ job 4 5 1 ∷ [] };
      found = record {
        overload = 4 ∷ 5 ∷ 3 ∷ [];
        able = 0;
        exact = 0;
        settings = 2 ∷ 0 ∷ 2 ∷ 0 ∷ 3 ∷ [];
        served = 2 ∷ 0 ∷ 0 ∷ 0 ∷ [];
        left = (0, 0, 0) ∷ (1, 2, 2) ∷ (3, 4, 2) ∷ (3, 4, 1) ∷ [];
        draws = [];
        blocks = (3, 1, 4, 5) ∷ (2, 1, 0, 1) ∷ (2, 1, 2, 3) ∷ [];
      };
    } ∷
    record {
      book = record { ticks = 2; top = 3; demands = job 0 2 3 ∷ job 1 2 2 ∷ job 0 2 3 ∷ [] };
      found = record {
        overload = 0 ∷ 2 ∷ 8 ∷ [];
        able = 0;
        exact = 0;
        settings = 4 ∷ 4 ∷ [];
        served = 3 ∷ 0 ∷ 1 ∷ [];
        left = (0, 1, 0) ∷ (0, 1, 2) ∷ (0, 1, 2) ∷ [];
        draws = [];
        blocks = (8, 2, 0, 2) ∷ [];
      };
    } ∷
    record {
      book = record { ticks = 3; top = 1; demands = job 1 2 1 ∷ job 1 2 1 ∷ job 2 3 1 ∷ job 1 3 1 ∷ [] };
      found = record {
        overload = 1 ∷ 2 ∷ 2 ∷ [];
        able = 0;
        exact = 0;
        settings = 0 ∷ 2 ∷ 2 ∷ [];
        served = 0 ∷ 0 ∷ 0 ∷ 0 ∷ [];
        left = (0, 1, 1) ∷ (0, 1, 1) ∷ (1, 2, 1) ∷ (0, 2, 1) ∷ [];
        draws = [];
        blocks = (4, 2, 1, 3) ∷ [];
      };
    } ∷
    record {
      book = record { ticks = 4; top = 1; demands = job 0 3 1 ∷ job 2 4 1 ∷ [] };
      found = record {
        overload = [];
        able = 10;
        exact = 5;
        settings = 1 ∷ 0 ∷ 1 ∷ 0 ∷ [];
        served = 1 ∷ 0 ∷ [];
        left = (0, 2, 0) ∷ (1, 3, 1) ∷ [];
        draws = 2 ∷ 42 ∷ 32 ∷ 0 ∷ [];
        blocks = (2, 4, 0, 4) ∷ [];
      };
    } ∷
    record {
      book = record { ticks = 2; top = 2; demands = job 0 2 2 ∷ [] };
      found = record {
        overload = [];
        able = 6;
        exact = 3;
        settings = 1 ∷ 1 ∷ [];
        served = 1 ∷ [];
        left = (0, 1, 1) ∷ [];
        draws = 2 ∷ 22 ∷ 16 ∷ 0 ∷ [];
        blocks = (2, 2, 0, 2) ∷ [];
      };
    } ∷
    record {
      book = record { ticks = 2; top = 4; demands = job 0 2 4 ∷ job 1 2 3 ∷ job 0 2 4 ∷ [] };
      found = record {
        overload = 0 ∷ 2 ∷ 11 ∷ [];
        able = 0;
        exact = 0;
        settings = 6 ∷ 5 ∷ [];
        served = 4 ∷ 0 ∷ 2 ∷ [];
        left = (0, 1, 0) ∷ (0, 1, 3) ∷ (0, 1, 2) ∷ [];
        draws = [];
        blocks = (11, 2, 0, 2) ∷ [];
      };
    } ∷
    record {
      book = record { ticks = 3; top = 3; demands = job 1 2 1 ∷ [] };
      found = record {
        overload = [];
        able = 48;
        exact = 1;
        settings = 0 ∷ 1 ∷ 0 ∷ [];
        served = 0 ∷ [];
        left = (0, 1, 1) ∷ [];
        draws = 1 ∷ 31 ∷ 24 ∷ 0 ∷ [];
        blocks = (1, 1, 1, 2) ∷ [];
      };
    } ∷
    record {
      book = record { ticks = 5; top = 2; demands = job 1 3 3 ∷ job 2 4 3 ∷ [] };
      found = record {
        overload = [];
        able = 9;
        exact = 1;
        settings = 0 ∷ 2 ∷ 2 ∷ 2 ∷ 0 ∷ [];
        served = 0 ∷ 0 ∷ [];
        left = (0, 2, 3) ∷ (1, 3, 3) ∷ [];
        draws = 6 ∷ 74 ∷ 40 ∷ 3 ∷ [];
        blocks = (6, 3, 1, 4) ∷ [];
      };
    } ∷
    record {
      book = record { ticks = 2; top = 1; demands = job 0 1 1 ∷ [] };
      found = record {
        overload = [];
        able = 2;
        exact = 1;
        settings = 1 ∷ 0 ∷ [];
        served = 1 ∷ [];
        left = (0, 0, 0) ∷ [];
        draws = 1 ∷ 21 ∷ 16 ∷ 0 ∷ [];
        blocks = (1, 1, 0, 1) ∷ [];
      };
    } ∷
    record {
      book = record { ticks = 3; top = 4; demands = job 1 3 1 ∷ [] };
      found = record {
        overload = [];
        able = 120;
        exact = 2;
        settings = 0 ∷ 1 ∷ 0 ∷ [];
        served = 0 ∷ [];
        left = (0, 2, 1) ∷ [];
        draws = 1 ∷ 31 ∷ 24 ∷ 0 ∷ [];
        blocks = (1, 2, 1, 3) ∷ [];
      };
    } ∷
    record {
      book = record { ticks = 3; top = 5; demands = job 1 3 2 ∷ [] };
      found = record {
        overload = [];
        able = 198;
        exact = 3;
        settings = 0 ∷ 1 ∷ 1 ∷ [];
        served = 0 ∷ [];
        left = (0, 2, 2) ∷ [];
        draws = 2 ∷ 32 ∷ 24 ∷ 0 ∷ [];
        blocks = (2, 2, 1, 3) ∷ [];
      };
    } ∷
    record {
      book = record { ticks = 2; top = 4; demands = job 1 2 1 ∷ job 0 2 2 ∷ job 1 2 2 ∷ [] };
      found = record {
        overload = [];
        able = 7;
        exact = 2;
        settings = 2 ∷ 3 ∷ [];
        served = 0 ∷ 2 ∷ 0 ∷ [];
        left = (0, 1, 1) ∷ (0, 1, 0) ∷ (0, 1, 2) ∷ [];
        draws = 5 ∷ 55 ∷ 35 ∷ 3 ∷ [];
        blocks = (3, 1, 1, 2) ∷ (2, 1, 0, 1) ∷ [];
      };
    } ∷
    record {
      book = record { ticks = 4; top = 1; demands = job 0 1 1 ∷ job 0 3 2 ∷ job 2 3 1 ∷ job 1 4 1 ∷ [] };
      found = record {
        overload = 0 ∷ 3 ∷ 4 ∷ [];
        able = 0;
        exact = 0;
        settings = 2 ∷ 1 ∷ 1 ∷ 1 ∷ [];
        served = 1 ∷ 1 ∷ 0 ∷ 0 ∷ [];
        left = (0, 0, 0) ∷ (0, 2, 1) ∷ (1, 2, 1) ∷ (0, 3, 1) ∷ [];
        draws = [];
        blocks = (4, 3, 0, 3) ∷ (1, 1, 3, 4) ∷ [];
      };
    } ∷
    record {
      book = record { ticks = 5; top = 1; demands = job 1 2 1 ∷ job 3 5 2 ∷ [] };
      found = record {
        overload = [];
        able = 4;
        exact = 1;
        settings = 0 ∷ 1 ∷ 0 ∷ 1 ∷ 1 ∷ [];
        served = 0 ∷ 0 ∷ [];
        left = (0, 1, 1) ∷ (2, 4, 2) ∷ [];
        draws = 3 ∷ 53 ∷ 40 ∷ 0 ∷ [];
        blocks = (1, 1, 1, 2) ∷ (2, 2, 3, 5) ∷ [];
      };
    } ∷
    record {
      book = record { ticks = 2; top = 5; demands = job 0 2 3 ∷ job 0 2 1 ∷ [] };
      found = record {
        overload = [];
        able = 26;
        exact = 5;
        settings = 2 ∷ 2 ∷ [];
        served = 2 ∷ 0 ∷ [];
        left = (0, 1, 1) ∷ (0, 1, 1) ∷ [];
        draws = 4 ∷ 36 ∷ 16 ∷ 2 ∷ [];
        blocks = (4, 2, 0, 2) ∷ [];
      };
    } ∷
    record {
      book = record { ticks = 5; top = 1; demands = job 2 3 1 ∷ job 0 3 2 ∷ job 2 5 1 ∷ job 4 5 1 ∷ [] };
      found = record {
        overload = [];
        able = 1;
        exact = 1;
        settings = 1 ∷ 1 ∷ 1 ∷ 1 ∷ 1 ∷ [];
        served = 0 ∷ 1 ∷ 0 ∷ 0 ∷ [];
        left = (1, 2, 1) ∷ (0, 2, 1) ∷ (1, 4, 1) ∷ (3, 4, 1) ∷ [];
        draws = 5 ∷ 55 ∷ 40 ∷ 0 ∷ [];
        blocks = (5, 5, 0, 5) ∷ [];
      };
    } ∷
    record {
      book = record { ticks = 3; top = 5; demands = job 0 3 7 ∷ job 1 3 3 ∷ job 2 3 3 ∷ [] };
      found = record {
        overload = [];
        able = 10;
        exact = 6;
        settings = 5 ∷ 4 ∷ 4 ∷ [];
        served = 5 ∷ 0 ∷ 0 ∷ [];
        left = (0, 2, 2) ∷ (0, 2, 3) ∷ (1, 2, 3) ∷ [];
        draws = 13 ∷ 283 ∷ 253 ∷ 10 ∷ [];
        blocks = (13, 3, 0, 3) ∷ [];
      };
    } ∷
    record {
      book = record { ticks = 2; top = 5; demands = job 0 1 1 ∷ job 0 2 4 ∷ [] };
      found = record {
        overload = [];
        able = 20;
        exact = 5;
        settings = 3 ∷ 2 ∷ [];
        served = 1 ∷ 2 ∷ [];
        left = (0, 0, 0) ∷ (0, 1, 2) ∷ [];
        draws = 5 ∷ 55 ∷ 35 ∷ 3 ∷ [];
        blocks = (5, 2, 0, 2) ∷ [];
      };
    } ∷
    record {
      book = record { ticks = 4; top = 2; demands = job 0 3 2 ∷ job 2 4 1 ∷ [] };
      found = record {
        overload = [];
        able = 60;
        exact = 11;
        settings = 1 ∷ 1 ∷ 1 ∷ 0 ∷ [];
        served = 1 ∷ 0 ∷ [];
        left = (0, 2, 1) ∷ (1, 3, 1) ∷ [];
        draws = 3 ∷ 43 ∷ 32 ∷ 0 ∷ [];
        blocks = (3, 4, 0, 4) ∷ [];
      };
    } ∷
    record {
      book = record { ticks = 2; top = 5; demands = job 0 1 3 ∷ job 1 2 3 ∷ job 1 2 3 ∷ [] };
      found = record {
        overload = 1 ∷ 2 ∷ 6 ∷ [];
        able = 0;
        exact = 0;
        settings = 3 ∷ 6 ∷ [];
        served = 3 ∷ 0 ∷ 0 ∷ [];
        left = (0, 0, 0) ∷ (0, 1, 3) ∷ (0, 1, 3) ∷ [];
        draws = [];
        blocks = (6, 1, 1, 2) ∷ (3, 1, 0, 1) ∷ [];
      };
    } ∷
    record {
      book = record { ticks = 3; top = 4; demands = job 1 3 5 ∷ job 2 3 3 ∷ [] };
      found = record {
        overload = [];
        able = 5;
        exact = 1;
        settings = 0 ∷ 4 ∷ 4 ∷ [];
        served = 0 ∷ 0 ∷ [];
        left = (0, 2, 5) ∷ (1, 2, 3) ∷ [];
        draws = 8 ∷ 158 ∷ 136 ∷ 6 ∷ [];
        blocks = (8, 2, 1, 3) ∷ [];
      };
    } ∷
    record {
      book = record { ticks = 3; top = 3; demands = job 1 2 1 ∷ job 1 2 1 ∷ [] };
      found = record {
        overload = [];
        able = 32;
        exact = 1;
        settings = 0 ∷ 2 ∷ 0 ∷ [];
        served = 0 ∷ 0 ∷ [];
        left = (0, 1, 1) ∷ (0, 1, 1) ∷ [];
        draws = 2 ∷ 38 ∷ 24 ∷ 1 ∷ [];
        blocks = (2, 1, 1, 2) ∷ [];
      };
    } ∷
    record {
      book = record { ticks = 3; top = 3; demands = job 1 2 1 ∷ job 2 3 1 ∷ job 2 3 2 ∷ [] };
      found = record {
        overload = [];
        able = 12;
        exact = 1;
        settings = 0 ∷ 1 ∷ 3 ∷ [];
        served = 0 ∷ 0 ∷ 0 ∷ [];
        left = (0, 1, 1) ∷ (1, 2, 1) ∷ (1, 2, 2) ∷ [];
        draws = 4 ∷ 58 ∷ 43 ∷ 2 ∷ [];
        blocks = (3, 1, 2, 3) ∷ (1, 1, 1, 2) ∷ [];
      };
    } ∷
    record {
      book = record { ticks = 2; top = 3; demands = job 0 1 2 ∷ [] };
      found = record {
        overload = [];
        able = 8;
        exact = 1;
        settings = 2 ∷ 0 ∷ [];
        served = 2 ∷ [];
        left = (0, 0, 0) ∷ [];
        draws = 2 ∷ 28 ∷ 16 ∷ 1 ∷ [];
        blocks = (2, 1, 0, 1) ∷ [];
      };
    } ∷
    record {
      book = record { ticks = 4; top = 1; demands = job 1 3 1 ∷ job 2 3 1 ∷ [] };
      found = record {
        overload = [];
        able = 4;
        exact = 1;
        settings = 0 ∷ 1 ∷ 1 ∷ 0 ∷ [];
        served = 0 ∷ 0 ∷ [];
        left = (0, 2, 1) ∷ (1, 2, 1) ∷ [];
        draws = 2 ∷ 42 ∷ 32 ∷ 0 ∷ [];
        blocks = (2, 2, 1, 3) ∷ [];
      };
    } ∷
    record {
      book = record { ticks = 3; top = 4; demands = job 0 2 2 ∷ job 1 3 4 ∷ job 2 3 2 ∷ [] };
      found = record {
        overload = [];
        able = 22;
        exact = 6;
        settings = 2 ∷ 3 ∷ 3 ∷ [];
        served = 2 ∷ 0 ∷ 0 ∷ [];
        left = (0, 1, 0) ∷ (0, 2, 4) ∷ (1, 2, 2) ∷ [];
        draws = 8 ∷ 92 ∷ 62 ∷ 5 ∷ [];
        blocks = (6, 2, 1, 3) ∷ (2, 1, 0, 1) ∷ [];
      };
    } ∷
    record {
      book = record { ticks = 3; top = 2; demands = job 0 2 1 ∷ [] };
      found = record {
        overload = [];
        able = 24;
        exact = 2;
        settings = 1 ∷ 0 ∷ 0 ∷ [];
        served = 1 ∷ [];
        left = (0, 1, 0) ∷ [];
        draws = 1 ∷ 31 ∷ 24 ∷ 0 ∷ [];
        blocks = (1, 2, 0, 2) ∷ [];
      };
    } ∷
    record {
      book = record { ticks = 3; top = 5; demands = job 1 2 1 ∷ job 1 2 3 ∷ job 2 3 1 ∷ [] };
      found = record {
        overload = [];
        able = 60;
        exact = 1;
        settings = 0 ∷ 4 ∷ 1 ∷ [];
        served = 0 ∷ 0 ∷ 0 ∷ [];
        left = (0, 1, 1) ∷ (0, 1, 3) ∷ (1, 2, 1) ∷ [];
        draws = 5 ∷ 95 ∷ 80 ∷ 3 ∷ [];
        blocks = (4, 1, 1, 2) ∷ (1, 1, 2, 3) ∷ [];
      };
    } ∷
    record {
      book = record { ticks = 2; top = 3; demands = job 0 1 1 ∷ [] };
      found = record {
        overload = [];
        able = 12;
        exact = 1;
        settings = 1 ∷ 0 ∷ [];
        served = 1 ∷ [];
        left = (0, 0, 0) ∷ [];
        draws = 1 ∷ 21 ∷ 16 ∷ 0 ∷ [];
        blocks = (1, 1, 0, 1) ∷ [];
      };
    } ∷
    record {
      book = record { ticks = 3; top = 5; demands = job 0 2 6 ∷ job 0 2 6 ∷ job 1 2 2 ∷ [] };
      found = record {
        overload = 0 ∷ 2 ∷ 14 ∷ [];
        able = 0;
        exact = 0;
        settings = 7 ∷ 7 ∷ 0 ∷ [];
        served = 6 ∷ 1 ∷ 0 ∷ [];
        left = (0, 1, 0) ∷ (0, 1, 5) ∷ (0, 1, 2) ∷ [];
        draws = [];
        blocks = (14, 2, 0, 2) ∷ [];
      };
    } ∷
    record {
      book = record { ticks = 3; top = 3; demands = job 1 3 1 ∷ job 2 3 2 ∷ job 1 3 1 ∷ [] };
      found = record {
        overload = [];
        able = 20;
        exact = 2;
        settings = 0 ∷ 2 ∷ 2 ∷ [];
        served = 0 ∷ 0 ∷ 0 ∷ [];
        left = (0, 2, 1) ∷ (1, 2, 2) ∷ (0, 2, 1) ∷ [];
        draws = 4 ∷ 46 ∷ 24 ∷ 2 ∷ [];
        blocks = (4, 2, 1, 3) ∷ [];
      };
    } ∷
    record {
      book = record { ticks = 3; top = 5; demands = job 0 1 1 ∷ job 0 1 3 ∷ job 0 3 5 ∷ job 2 3 3 ∷ [] };
      found = record {
        overload = [];
        able = 15;
        exact = 6;
        settings = 4 ∷ 4 ∷ 4 ∷ [];
        served = 1 ∷ 3 ∷ 0 ∷ 0 ∷ [];
        left = (0, 0, 0) ∷ (0, 0, 0) ∷ (0, 2, 5) ∷ (1, 2, 3) ∷ [];
        draws = 12 ∷ 222 ∷ 192 ∷ 9 ∷ [];
        blocks = (12, 3, 0, 3) ∷ [];
      };
    } ∷
    []
