mod Statements
