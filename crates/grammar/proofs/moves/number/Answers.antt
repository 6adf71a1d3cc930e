-- Each arm is an entry of the atoms, and the last is what lies behind them.
use lib.ListN.{get_or, get_or-eq_default}
use Prim.Native.Nat.{ℕ, ◌≤◌}
use mathlib.Core.Path.{◌≡◌, sym, ap}
use native.Mathlib.Omega.{arith}
use Rattle.grammar.specs.Code.{atoms}
use Rattle.grammar.specs.Said.{Numbered}
use Rattle.grammar.proofs.Tables.{atom_within, Others, behind}
use Rattle.grammar.proofs.moves.number.Goals as goal

row : (k a : ℕ) → a ≡ k → Numbered a (get_or atoms k 0)
row k a e = record { is = sym (ap (λ n. get_or atoms n 0) e); here = omega (arith, atom_within a, ap (λ n. get_or atoms n 0) e) }

past : (a : ℕ) → 146 ≤ a → Numbered a 0
unfolding atoms
past a h = record { is = sym (get_or-eq_default atoms 0 {n = a} h); here = omega arith }

pub returns-in-0 : goal.returns-in-0
unfolding atoms Others
returns-in-0 c = row 0 _ c.in-0.is

pub returns-in-1 : goal.returns-in-1
unfolding atoms Others
returns-in-1 c = row 1 _ c.in-1.is

pub returns-in-2 : goal.returns-in-2
unfolding atoms Others
returns-in-2 c = row 2 _ c.in-2.is

pub returns-in-3 : goal.returns-in-3
unfolding atoms Others
returns-in-3 c = row 3 _ c.in-3.is

pub returns-in-4 : goal.returns-in-4
unfolding atoms Others
returns-in-4 c = row 4 _ c.in-4.is

pub returns-in-5 : goal.returns-in-5
unfolding atoms Others
returns-in-5 c = row 5 _ c.in-5.is

pub returns-in-6 : goal.returns-in-6
unfolding atoms Others
returns-in-6 c = row 6 _ c.in-6.is

pub returns-in-7 : goal.returns-in-7
unfolding atoms Others
returns-in-7 c = row 7 _ c.in-7.is

pub returns-in-8 : goal.returns-in-8
unfolding atoms Others
returns-in-8 c = row 8 _ c.in-8.is

pub returns-in-9 : goal.returns-in-9
unfolding atoms Others
returns-in-9 c = row 9 _ c.in-9.is

pub returns-in-10 : goal.returns-in-10
unfolding atoms Others
returns-in-10 c = row 10 _ c.in-10.is

pub returns-in-11 : goal.returns-in-11
unfolding atoms Others
returns-in-11 c = row 11 _ c.in-11.is

pub returns-in-12 : goal.returns-in-12
unfolding atoms Others
returns-in-12 c = row 12 _ c.in-12.is

pub returns-in-13 : goal.returns-in-13
unfolding atoms Others
returns-in-13 c = row 13 _ c.in-13.is

pub returns-in-14 : goal.returns-in-14
unfolding atoms Others
returns-in-14 c = row 14 _ c.in-14.is

pub returns-in-15 : goal.returns-in-15
unfolding atoms Others
returns-in-15 c = row 15 _ c.in-15.is

pub returns-in-16 : goal.returns-in-16
unfolding atoms Others
returns-in-16 c = row 16 _ c.in-16.is

pub returns-in-17 : goal.returns-in-17
unfolding atoms Others
returns-in-17 c = row 17 _ c.in-17.is

pub returns-in-18 : goal.returns-in-18
unfolding atoms Others
returns-in-18 c = row 18 _ c.in-18.is

pub returns-in-19 : goal.returns-in-19
unfolding atoms Others
returns-in-19 c = row 19 _ c.in-19.is

pub returns-in-20 : goal.returns-in-20
unfolding atoms Others
returns-in-20 c = row 20 _ c.in-20.is

pub returns-in-21 : goal.returns-in-21
unfolding atoms Others
returns-in-21 c = row 21 _ c.in-21.is

pub returns-in-22 : goal.returns-in-22
unfolding atoms Others
returns-in-22 c = row 22 _ c.in-22.is

pub returns-in-23 : goal.returns-in-23
unfolding atoms Others
returns-in-23 c = row 23 _ c.in-23.is

pub returns-in-24 : goal.returns-in-24
unfolding atoms Others
returns-in-24 c = row 24 _ c.in-24.is

pub returns-in-25 : goal.returns-in-25
unfolding atoms Others
returns-in-25 c = row 25 _ c.in-25.is

pub returns-in-26 : goal.returns-in-26
unfolding atoms Others
returns-in-26 c = row 26 _ c.in-26.is

pub returns-in-27 : goal.returns-in-27
unfolding atoms Others
returns-in-27 c = row 27 _ c.in-27.is

pub returns-in-28 : goal.returns-in-28
unfolding atoms Others
returns-in-28 c = row 28 _ c.in-28.is

pub returns-in-29 : goal.returns-in-29
unfolding atoms Others
returns-in-29 c = row 29 _ c.in-29.is

pub returns-in-30 : goal.returns-in-30
unfolding atoms Others
returns-in-30 c = row 30 _ c.in-30.is

pub returns-in-31 : goal.returns-in-31
unfolding atoms Others
returns-in-31 c = row 31 _ c.in-31.is

pub returns-in-32 : goal.returns-in-32
unfolding atoms Others
returns-in-32 c = row 32 _ c.in-32.is

pub returns-in-33 : goal.returns-in-33
unfolding atoms Others
returns-in-33 c = row 33 _ c.in-33.is

pub returns-in-34 : goal.returns-in-34
unfolding atoms Others
returns-in-34 c = row 34 _ c.in-34.is

pub returns-in-35 : goal.returns-in-35
unfolding atoms Others
returns-in-35 c = row 35 _ c.in-35.is

pub returns-in-36 : goal.returns-in-36
unfolding atoms Others
returns-in-36 c = row 36 _ c.in-36.is

pub returns-in-37 : goal.returns-in-37
unfolding atoms Others
returns-in-37 c = row 37 _ c.in-37.is

pub returns-in-38 : goal.returns-in-38
unfolding atoms Others
returns-in-38 c = row 38 _ c.in-38.is

pub returns-in-39 : goal.returns-in-39
unfolding atoms Others
returns-in-39 c = row 39 _ c.in-39.is

pub returns-in-40 : goal.returns-in-40
unfolding atoms Others
returns-in-40 c = row 40 _ c.in-40.is

pub returns-in-41 : goal.returns-in-41
unfolding atoms Others
returns-in-41 c = row 41 _ c.in-41.is

pub returns-in-42 : goal.returns-in-42
unfolding atoms Others
returns-in-42 c = row 42 _ c.in-42.is

pub returns-in-43 : goal.returns-in-43
unfolding atoms Others
returns-in-43 c = row 43 _ c.in-43.is

pub returns-in-44 : goal.returns-in-44
unfolding atoms Others
returns-in-44 c = row 44 _ c.in-44.is

pub returns-in-45 : goal.returns-in-45
unfolding atoms Others
returns-in-45 c = row 45 _ c.in-45.is

pub returns-in-46 : goal.returns-in-46
unfolding atoms Others
returns-in-46 c = row 46 _ c.in-46.is

pub returns-in-47 : goal.returns-in-47
unfolding atoms Others
returns-in-47 c = row 47 _ c.in-47.is

pub returns-in-48 : goal.returns-in-48
unfolding atoms Others
returns-in-48 c = row 48 _ c.in-48.is

pub returns-in-49 : goal.returns-in-49
unfolding atoms Others
returns-in-49 c = row 49 _ c.in-49.is

pub returns-in-50 : goal.returns-in-50
unfolding atoms Others
returns-in-50 c = row 50 _ c.in-50.is

pub returns-in-51 : goal.returns-in-51
unfolding atoms Others
returns-in-51 c = row 51 _ c.in-51.is

pub returns-in-52 : goal.returns-in-52
unfolding atoms Others
returns-in-52 c = row 52 _ c.in-52.is

pub returns-in-53 : goal.returns-in-53
unfolding atoms Others
returns-in-53 c = row 53 _ c.in-53.is

pub returns-in-54 : goal.returns-in-54
unfolding atoms Others
returns-in-54 c = row 54 _ c.in-54.is

pub returns-in-55 : goal.returns-in-55
unfolding atoms Others
returns-in-55 c = row 55 _ c.in-55.is

pub returns-in-56 : goal.returns-in-56
unfolding atoms Others
returns-in-56 c = row 56 _ c.in-56.is

pub returns-in-57 : goal.returns-in-57
unfolding atoms Others
returns-in-57 c = row 57 _ c.in-57.is

pub returns-in-58 : goal.returns-in-58
unfolding atoms Others
returns-in-58 c = row 58 _ c.in-58.is

pub returns-in-59 : goal.returns-in-59
unfolding atoms Others
returns-in-59 c = row 59 _ c.in-59.is

pub returns-in-60 : goal.returns-in-60
unfolding atoms Others
returns-in-60 c = row 60 _ c.in-60.is

pub returns-in-61 : goal.returns-in-61
unfolding atoms Others
returns-in-61 c = row 61 _ c.in-61.is

pub returns-in-62 : goal.returns-in-62
unfolding atoms Others
returns-in-62 c = row 62 _ c.in-62.is

pub returns-in-63 : goal.returns-in-63
unfolding atoms Others
returns-in-63 c = row 63 _ c.in-63.is

pub returns-in-64 : goal.returns-in-64
unfolding atoms Others
returns-in-64 c = row 64 _ c.in-64.is

pub returns-in-65 : goal.returns-in-65
unfolding atoms Others
returns-in-65 c = row 65 _ c.in-65.is

pub returns-in-66 : goal.returns-in-66
unfolding atoms Others
returns-in-66 c = row 66 _ c.in-66.is

pub returns-in-67 : goal.returns-in-67
unfolding atoms Others
returns-in-67 c = row 67 _ c.in-67.is

pub returns-in-68 : goal.returns-in-68
unfolding atoms Others
returns-in-68 c = row 68 _ c.in-68.is

pub returns-in-69 : goal.returns-in-69
unfolding atoms Others
returns-in-69 c = row 69 _ c.in-69.is

pub returns-in-70 : goal.returns-in-70
unfolding atoms Others
returns-in-70 c = row 70 _ c.in-70.is

pub returns-in-71 : goal.returns-in-71
unfolding atoms Others
returns-in-71 c = row 71 _ c.in-71.is

pub returns-in-72 : goal.returns-in-72
unfolding atoms Others
returns-in-72 c = row 72 _ c.in-72.is

pub returns-in-73 : goal.returns-in-73
unfolding atoms Others
returns-in-73 c = row 73 _ c.in-73.is

pub returns-in-74 : goal.returns-in-74
unfolding atoms Others
returns-in-74 c = row 74 _ c.in-74.is

pub returns-in-75 : goal.returns-in-75
unfolding atoms Others
returns-in-75 c = row 75 _ c.in-75.is

pub returns-in-76 : goal.returns-in-76
unfolding atoms Others
returns-in-76 c = row 76 _ c.in-76.is

pub returns-in-77 : goal.returns-in-77
unfolding atoms Others
returns-in-77 c = row 77 _ c.in-77.is

pub returns-in-78 : goal.returns-in-78
unfolding atoms Others
returns-in-78 c = row 78 _ c.in-78.is

pub returns-in-79 : goal.returns-in-79
unfolding atoms Others
returns-in-79 c = row 79 _ c.in-79.is

pub returns-in-80 : goal.returns-in-80
unfolding atoms Others
returns-in-80 c = row 80 _ c.in-80.is

pub returns-in-81 : goal.returns-in-81
unfolding atoms Others
returns-in-81 c = row 81 _ c.in-81.is

pub returns-in-82 : goal.returns-in-82
unfolding atoms Others
returns-in-82 c = row 82 _ c.in-82.is

pub returns-in-83 : goal.returns-in-83
unfolding atoms Others
returns-in-83 c = row 83 _ c.in-83.is

pub returns-in-84 : goal.returns-in-84
unfolding atoms Others
returns-in-84 c = row 84 _ c.in-84.is

pub returns-in-85 : goal.returns-in-85
unfolding atoms Others
returns-in-85 c = row 85 _ c.in-85.is

pub returns-in-86 : goal.returns-in-86
unfolding atoms Others
returns-in-86 c = row 86 _ c.in-86.is

pub returns-in-87 : goal.returns-in-87
unfolding atoms Others
returns-in-87 c = row 87 _ c.in-87.is

pub returns-in-88 : goal.returns-in-88
unfolding atoms Others
returns-in-88 c = row 88 _ c.in-88.is

pub returns-in-89 : goal.returns-in-89
unfolding atoms Others
returns-in-89 c = row 89 _ c.in-89.is

pub returns-in-90 : goal.returns-in-90
unfolding atoms Others
returns-in-90 c = row 90 _ c.in-90.is

pub returns-in-91 : goal.returns-in-91
unfolding atoms Others
returns-in-91 c = row 91 _ c.in-91.is

pub returns-in-92 : goal.returns-in-92
unfolding atoms Others
returns-in-92 c = row 92 _ c.in-92.is

pub returns-in-93 : goal.returns-in-93
unfolding atoms Others
returns-in-93 c = row 93 _ c.in-93.is

pub returns-in-94 : goal.returns-in-94
unfolding atoms Others
returns-in-94 c = row 94 _ c.in-94.is

pub returns-in-95 : goal.returns-in-95
unfolding atoms Others
returns-in-95 c = row 95 _ c.in-95.is

pub returns-in-96 : goal.returns-in-96
unfolding atoms Others
returns-in-96 c = row 96 _ c.in-96.is

pub returns-in-97 : goal.returns-in-97
unfolding atoms Others
returns-in-97 c = row 97 _ c.in-97.is

pub returns-in-98 : goal.returns-in-98
unfolding atoms Others
returns-in-98 c = row 98 _ c.in-98.is

pub returns-in-99 : goal.returns-in-99
unfolding atoms Others
returns-in-99 c = row 99 _ c.in-99.is

pub returns-in-100 : goal.returns-in-100
unfolding atoms Others
returns-in-100 c = row 100 _ c.in-100.is

pub returns-in-101 : goal.returns-in-101
unfolding atoms Others
returns-in-101 c = row 101 _ c.in-101.is

pub returns-in-102 : goal.returns-in-102
unfolding atoms Others
returns-in-102 c = row 102 _ c.in-102.is

pub returns-in-103 : goal.returns-in-103
unfolding atoms Others
returns-in-103 c = row 103 _ c.in-103.is

pub returns-in-104 : goal.returns-in-104
unfolding atoms Others
returns-in-104 c = row 104 _ c.in-104.is

pub returns-in-105 : goal.returns-in-105
unfolding atoms Others
returns-in-105 c = row 105 _ c.in-105.is

pub returns-in-106 : goal.returns-in-106
unfolding atoms Others
returns-in-106 c = row 106 _ c.in-106.is

pub returns-in-107 : goal.returns-in-107
unfolding atoms Others
returns-in-107 c = row 107 _ c.in-107.is

pub returns-in-108 : goal.returns-in-108
unfolding atoms Others
returns-in-108 c = row 108 _ c.in-108.is

pub returns-in-109 : goal.returns-in-109
unfolding atoms Others
returns-in-109 c = row 109 _ c.in-109.is

pub returns-in-110 : goal.returns-in-110
unfolding atoms Others
returns-in-110 c = row 110 _ c.in-110.is

pub returns-in-111 : goal.returns-in-111
unfolding atoms Others
returns-in-111 c = row 111 _ c.in-111.is

pub returns-in-112 : goal.returns-in-112
unfolding atoms Others
returns-in-112 c = row 112 _ c.in-112.is

pub returns-in-113 : goal.returns-in-113
unfolding atoms Others
returns-in-113 c = row 113 _ c.in-113.is

pub returns-in-114 : goal.returns-in-114
unfolding atoms Others
returns-in-114 c = row 114 _ c.in-114.is

pub returns-in-115 : goal.returns-in-115
unfolding atoms Others
returns-in-115 c = row 115 _ c.in-115.is

pub returns-in-116 : goal.returns-in-116
unfolding atoms Others
returns-in-116 c = row 116 _ c.in-116.is

pub returns-in-117 : goal.returns-in-117
unfolding atoms Others
returns-in-117 c = row 117 _ c.in-117.is

pub returns-in-118 : goal.returns-in-118
unfolding atoms Others
returns-in-118 c = row 118 _ c.in-118.is

pub returns-in-119 : goal.returns-in-119
unfolding atoms Others
returns-in-119 c = row 119 _ c.in-119.is

pub returns-in-120 : goal.returns-in-120
unfolding atoms Others
returns-in-120 c = row 120 _ c.in-120.is

pub returns-in-121 : goal.returns-in-121
unfolding atoms Others
returns-in-121 c = row 121 _ c.in-121.is

pub returns-in-122 : goal.returns-in-122
unfolding atoms Others
returns-in-122 c = row 122 _ c.in-122.is

pub returns-in-123 : goal.returns-in-123
unfolding atoms Others
returns-in-123 c = row 123 _ c.in-123.is

pub returns-in-124 : goal.returns-in-124
unfolding atoms Others
returns-in-124 c = row 124 _ c.in-124.is

pub returns-in-125 : goal.returns-in-125
unfolding atoms Others
returns-in-125 c = row 125 _ c.in-125.is

pub returns-in-126 : goal.returns-in-126
unfolding atoms Others
returns-in-126 c = row 126 _ c.in-126.is

pub returns-in-127 : goal.returns-in-127
unfolding atoms Others
returns-in-127 c = row 127 _ c.in-127.is

pub returns-in-128 : goal.returns-in-128
unfolding atoms Others
returns-in-128 c = row 128 _ c.in-128.is

pub returns-in-129 : goal.returns-in-129
unfolding atoms Others
returns-in-129 c = row 129 _ c.in-129.is

pub returns-in-130 : goal.returns-in-130
unfolding atoms Others
returns-in-130 c = row 130 _ c.in-130.is

pub returns-in-131 : goal.returns-in-131
unfolding atoms Others
returns-in-131 c = row 131 _ c.in-131.is

pub returns-in-132 : goal.returns-in-132
unfolding atoms Others
returns-in-132 c = row 132 _ c.in-132.is

pub returns-in-133 : goal.returns-in-133
unfolding atoms Others
returns-in-133 c = row 133 _ c.in-133.is

pub returns-in-134 : goal.returns-in-134
unfolding atoms Others
returns-in-134 c = row 134 _ c.in-134.is

pub returns-in-135 : goal.returns-in-135
unfolding atoms Others
returns-in-135 c = row 135 _ c.in-135.is

pub returns-in-136 : goal.returns-in-136
unfolding atoms Others
returns-in-136 c = row 136 _ c.in-136.is

pub returns-in-137 : goal.returns-in-137
unfolding atoms Others
returns-in-137 c = row 137 _ c.in-137.is

pub returns-in-138 : goal.returns-in-138
unfolding atoms Others
returns-in-138 c = row 138 _ c.in-138.is

pub returns-in-139 : goal.returns-in-139
unfolding atoms Others
returns-in-139 c = row 139 _ c.in-139.is

pub returns-in-140 : goal.returns-in-140
unfolding atoms Others
returns-in-140 c = row 140 _ c.in-140.is

pub returns-in-141 : goal.returns-in-141
unfolding atoms Others
returns-in-141 c = row 141 _ c.in-141.is

pub returns-in-142 : goal.returns-in-142
unfolding atoms Others
returns-in-142 c = row 142 _ c.in-142.is

pub returns-in-143 : goal.returns-in-143
unfolding atoms Others
returns-in-143 c = row 143 _ c.in-143.is

pub returns-in-144 : goal.returns-in-144
unfolding atoms Others
returns-in-144 c = row 144 _ c.in-144.is

pub returns-in-145 : goal.returns-in-145
unfolding atoms Others
returns-in-145 c = row 145 _ c.in-145.is

pub returns-in_default : goal.returns-in_default
unfolding atoms Others
returns-in_default c = past _ (behind 146 _ c.in_default.in_default-own.rest)
