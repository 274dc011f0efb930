mod Fours
